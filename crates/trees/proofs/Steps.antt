-- One call of a descent, of what its callees ensure.
use Rattle.std.specs.Prelude.{Some, None}
use Rattle.words.proofs.General.{ℕ, zero, suc, ◌+◌, ◌*◌, ◌-◌, ◌/◌, ◌^◌, ◌≤◌, ◌<◌, pow-suc, arith, ◌≡◌, refl, sym, ap, ◌∙◌, Bool, true, false, lt-ltb, le-ltb, pick}
use lib.Pow.{pow_pos}
use Rattle.model.proofs.Terms.{named, pointed, some_from, goes, descent, tree_choice, side_of, turned, levels, power_to16}
use Rattle.model.proofs.Trees.{levels_are}
use Rattle.trees.proofs.Spans.{Halving}

-- ---- the half

module _ (p : ℕ → Bool) (t k n first : ℕ) {h half : ℕ} {b : Bool} (is : h ≡ named t n) (wide : half ≡ 2 ^ k) (has : b ≡ some_from p (first + h * half) half) where
  asked : some_from p (first + named t n * 2 ^ k) (2 ^ k) ≡ b
  asked = sym (has ∙ rw (is, wide))

  pub goes-named : b ≡ true → h ≡ goes p t k n first
  unfolding goes
  goes-named e = is ∙ sym (rw (asked ∙ e))

  pub goes_other : b ≡ false → 1 - h ≡ goes p t k n first
  unfolding goes
  goes_other e = ap (λ (x : ℕ). 1 - x) is ∙ sym (rw (asked ∙ e))

module _ (k first w : ℕ) {half : ℕ} (wide : half ≡ 2 ^ k) where
  pub side_lower : w < first + half → 0 ≡ side_of k first w
  side_lower l = sym (ap (λ (b : Bool). pick b 0 1) (lt-ltb w (first + 2 ^ k) (omega arith)))

  pub side_upper : first + half ≤ w → 1 ≡ side_of k first w
  side_upper l = sym (ap (λ (b : Bool). pick b 0 1) (le-ltb w (first + 2 ^ k) (omega arith)))

-- ---- one way is left

no_power : (k : ℕ) {X : Type 0} → 1 ≡ 2 ^ suc k → X
no_power k e = absurd (omega (arith, pow-suc 2 k, pow_pos k))

module _ {width : ℕ} (one : width ≡ 1) where
  pub descent_ends : (p : ℕ → Bool) (t k n first : ℕ) → width ≡ 2 ^ k → first ≡ descent p t k n first
  unfolding descent
  descent_ends p t zero n first e = refl
  descent_ends p t (suc k) n first e = no_power k (sym one ∙ e)

  pub turned_ends : (t k n first w : ℕ) → width ≡ 2 ^ k → t ≡ turned t k n first w
  unfolding turned
  turned_ends t zero n first w e = refl
  turned_ends t (suc k) n first w e = no_power k (sym one ∙ e)

-- ---- a half is gone to

module _ {width k h r : ℕ} (s : Halving width k) where
  pub descent-goes : (p : ℕ → Bool) (t n first : ℕ)
      → ((j : ℕ) → width / 2 ≡ 2 ^ j → h ≡ goes p t j n first)
      → ((j : ℕ) → width / 2 ≡ 2 ^ j → r ≡ descent p t j (2 * n + h) (first + h * (width / 2)))
      → r ≡ descent p t k n first
  unfolding descent
  descent-goes p t n first f g =
      let j : ℕ = s.less in
      let a = f j s.half in
      g j s.half ∙ rw (s.one_more, ← a, s.half)

  pub turned-goes : {next : ℕ} (t n first w : ℕ)
      → ((j : ℕ) → width / 2 ≡ 2 ^ j → h ≡ side_of j first w)
      → next ≡ pointed t n (1 - h)
      → ((j : ℕ) → width / 2 ≡ 2 ^ j → r ≡ turned next j (2 * n + h) (first + h * (width / 2)) w)
      → r ≡ turned t k n first w
  unfolding turned
  turned-goes t n first w f e g =
      let j : ℕ = s.less in
      let a = f j s.half in
      g j s.half ∙ rw (e, s.one_more, ← a, s.half)

-- ---- the choice

module _ (p : ℕ → Bool) (t ways : ℕ) {b : Bool} (power : power_to16 ways ≡ true) (has : b ≡ some_from p 0 ways) where
  wide : ways ≡ 2 ^ levels ways
  wide = (levels_are ways power).0

  some_way : some_from p 0 (2 ^ levels ways) ≡ b
  some_way = sym (has ∙ ap (some_from p 0) wide)

  pub chosen_some : {w : ℕ} → b ≡ true → ((j : ℕ) → ways ≡ 2 ^ j → w ≡ descent p t j 1 0) → Some w ≡ tree_choice p t (levels ways)
  chosen_some e q = ap Some (q (levels ways) wide) ∙ sym (rw (some_way ∙ e))

  pub chosen_none : b ≡ false → None ≡ tree_choice p t (levels ways)
  chosen_none e = sym (rw (some_way ∙ e))
