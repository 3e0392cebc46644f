-- Shifted ones, and the halves of a span of ways.
use Rattle.words.proofs.General.{ℕ, zero, suc, ◌+◌, ◌*◌, ◌/◌, ◌%◌, ◌^◌, ◌≤◌, ◌<◌, mul-le-mul, one-mul, mod-eq_of_lt, pow-suc, arith, ◌≡◌, refl, ap, ◌∙◌, true}
use lib.Pow.{pow_pos, pow-lt}
use Rattle.model.proofs.Terms.{Span, power_to16, levels}
use Rattle.model.proofs.Trees.{nodes_down, levels_are}

pub one_shifted : {i : ℕ} → i < 32 → 1 * 2 ^ i % 2 ^ 32 ≡ 2 ^ i
one_shifted {i} l = ap (λ (x : ℕ). x % 2 ^ 32) (one-mul (2 ^ i)) ∙ mod-eq_of_lt (pow-lt l)

pub half_most : {h : ℕ} (w : ℕ) → h < 2 → h * w ≤ w
half_most {h} w l = let m : h * w ≤ 1 * w = mul-le-mul (omega arith) (omega arith) in omega arith

-- a width that is not 1, halved
pub record Halving (width k : ℕ) : Type 0 where
  pub less : ℕ
  pub one_more : k ≡ suc less
  pub half : width / 2 ≡ 2 ^ less

pub halved : {width : ℕ} (k : ℕ) → width ≡ 2 ^ k → (width ≡ 1 → ⊥) → Halving width k
halved zero e f = absurd (f e)
halved (suc k) e f = let d = pow-suc 2 k in record { less = k; one_more = refl; half = omega arith }

-- what the calls below a span of more than one way need
pub record Halves (node first width : ℕ) : Type 0 where
  pub narrower : width / 2 < width
  pub low : node ≤ 15
  pub room : first + width / 2 + width / 2 ≤ 16
  pub below : (h : ℕ) → h < 2 → Span (2 * node + h) (first + h * (width / 2)) (width / 2)

pub halves_of : {node first width : ℕ} → Span node first width → (width ≡ 1 → ⊥) → Halves node first width
halves_of {node} {first} {width} s f = go (halved s.halved s.wide f)
  where
    go : Halving width s.halved → Halves node first width
    go h =
        let j : ℕ = h.less in
        let d = pow-suc 2 j in
        let e : width ≡ 2 ^ suc j = s.wide ∙ ap (λ (x : ℕ). 2 ^ x) h.one_more in
        let q = h.half in
        let n : node * 2 ^ suc j + 2 ^ suc j ≤ 16 * 2 = rw e at s.nodes in
        let (c, r) = nodes_down node j 16 n in
        record {
          narrower = omega (arith, pow_pos j);
          low = omega arith;
          room = omega (arith, s.ways);
          below = λ i l. record {
            halved = j;
            wide = q;
            top = omega (arith, s.top);
            nodes = rw q (r i l);
            ways = omega (arith, s.ways, half_most (width / 2) l);
          };
        }

-- all ways of a set
pub span_of : (ways : ℕ) → power_to16 ways ≡ true → Span 1 0 ways
span_of ways e = let l = levels_are ways e in record { halved = levels ways; wide = l.0; top = omega arith; nodes = omega (arith, l.1); ways = omega (arith, l.1) }
