-- The digits from `at` on end where those from `i` on do, and come to the same behind the value so far.
use Rattle.words.proofs.General.{arith, ◌<◌, ◌≡◌, get_or}
use Rattle.std.proofs.Common.{None}
use Rattle.text.specs.declared.NotANumber.TheVariants.{TooLarge}
use Rattle.std.proofs.lemmas.Result.{err_from_is_err_and}
use Rattle.text.proofs.Reading.{digit_is, digit_not, read_done, read_off, read-on, read-large}
use Rattle.text.proofs.number_from.Goals as goal

pub returns-in_default : goal.returns-in_default
returns-in_default c =
    read_off c.loop-i.invariant c.loop-i-test.true (digit_not (get_or c.args.s.now c.loop-i.i 0) _ c.requires.1 c.in_default.ensures.value) c.number_of.ensures

pub returns-in_err-value : goal.returns-in_err-value
returns-in_err-value c =
    let d = c.in-Some.ensures.value in
    let p = err_from_is_err_and c.from_residual.result c.from_residual.ensures.1 in
    let h : 0 < c.args.base = omega arith in
    let z = read-large c.loop-i.invariant c.loop-i-test.true (digit_is (get_or c.args.s.now c.loop-i.i 0) _ c.requires.1 d.0 d.1) (omega arith) c.with_digit.ensures h c.in_err-value.ensures.ok_part in
    let w = c.in_err-value.ensures.value in
    let n : c.with_digit.result ≡ None = c.in_err-value.ensures.ok_part in
    let v = rw n at w in
    let e : c.in_err-value.field-0.0 ≡ TooLarge = cc in
    rw (p.1, p.2, e) z

pub loop-i-preserved : goal.loop-i-preserved
loop-i-preserved c =
    let d = c.in-Some.ensures.value in
    read-on c.loop-i.invariant c.loop-i-test.true (digit_is (get_or c.args.s.now c.loop-i.i 0) _ c.requires.1 d.0 d.1) (omega arith) c.with_digit.ensures c.in_ok-value.ensures.ok_part

pub returns : goal.returns
returns c = read_done c.loop-i.invariant c.loop-i-test.false c.loop-i.auto.i-end (rw c.max.ensures at c.number_of-2.ensures)
