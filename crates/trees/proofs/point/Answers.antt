-- The bit is put, and taken out again for the lower half.
use Rattle.words.proofs.General.{ℕ, ◌-◌, ◌+◌, ◌*◌, ◌%◌, ◌^◌, ◌<◌, arith, ◌≡◌, sym, ap, ◌∙◌}
use lib.Bits.{bit_or}
use Rattle.model.proofs.Terms.{with_bit}
use Rattle.model.proofs.TreeBits.{or_puts, put_less}
use Rattle.trees.proofs.Spans.{one_shifted}
use Rattle.trees.proofs.point.Goals as goal

put : (t i : ℕ) → i < 32 → bit_or t (1 * 2 ^ i % 2 ^ 32) ≡ with_bit t i 0 + 2 ^ i
put t i l = ap (λ (x : ℕ). bit_or t x) (one_shifted l) ∙ or_puts t i ∙ put_less t i

pub overflow_sub-result : goal.overflow_sub-result
overflow_sub-result c =
    let a = c.args in omega (arith, put a.tree (a.node - 1) (omega arith), one_shifted {i = a.node - 1} (omega arith))

pub returns-then-half-eq1 : goal.returns-then-half-eq1
returns-then-half-eq1 c =
    let a = c.args in
    let i : ℕ = a.node - 1 in
    put a.tree i (omega arith) ∙ sym (put_less a.tree i) ∙ ap (λ (h : ℕ). with_bit a.tree i h) (sym c.if-half-eq1.true)

pub returns-else-half-eq1 : goal.returns-else-half-eq1
returns-else-half-eq1 c =
    let a = c.args in
    let i : ℕ = a.node - 1 in
    let z : a.half ≡ 0 = omega arith in
    let e : bit_or a.tree (1 * 2 ^ i % 2 ^ 32) - 1 * 2 ^ i % 2 ^ 32 ≡ with_bit a.tree i 0 = omega (arith, put a.tree i (omega arith), one_shifted {i = i} (omega arith)) in
    e ∙ ap (λ (h : ℕ). with_bit a.tree i h) (sym z)
