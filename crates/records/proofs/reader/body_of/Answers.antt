-- The table's rule at a command's kind, which is below its end; the part is the body's.
use Rattle.words.proofs.General.{ℕ, ◌+◌, ◌-◌, ◌<◌, arith, ◌≡◌, refl, ap, ◌∙◌, get_or, take, drop, true, ltb-true, rules}
use Rattle.model.proofs.Terms.{length_of, is_command}
use Rattle.records.proofs.Lengths.{lengths, length_is, command_kinds_lem}
use Rattle.records.proofs.reader.body_of.Goals as goal

-- a command's kind is in the table
below : (k : ℕ) → is_command k ≡ true → k < 7
below k h = ltb-true k 7 (command_kinds_lem k ∙ h)

rule : (k : ℕ) → is_command k ≡ true → get_or lengths k 0 ≡ length_of k
rule k h = let less = below k h in length_is k (omega arith)

pub slice_bounds-result-end : goal.slice_bounds-result-end
slice_bounds-result-end c = let h = rule c.args.kind c.requires.0 in search rules

pub returns : goal.returns
returns c =
    let a = c.args in
    let e : a.at + 1 + get_or lengths a.kind 0 - (a.at + 1) ≡ length_of a.kind = omega (arith, rule a.kind c.requires.0) in
    record { bytes = ap (λ (n : ℕ). take n (drop (a.at + 1) a.stream.now)) e; place = refl }
