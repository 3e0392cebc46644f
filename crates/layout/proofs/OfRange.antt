-- What the checks of refusals 1 and 2 answer, of what their callees ensure; no sum or product of settings in range wraps.
use Rattle.words.proofs.General.{◌*◌, mul-le-mul, ◌≡◌, sym, ◌∙◌, Bool, true, false, not, ◌&&◌, List, length, eqb, leb, eqb-true, leb-true, within}
use Rattle.words.proofs.General.{ℕ, ◌+◌, ◌≤◌, ◌<◌, arith, refl, ⊎_elim, [], ◌∷◌, all, any, every, every_at, same, same_is, lt_or_ge, no-yes, ne_eqb, and-false}
use Rattle.words.proofs.General.{and_1, and_2, not_yes, no-not}
use Rattle.std.specs.Int.{is_power_of_two}
use Rattle.layout.specs.Powers.{power_to}
use Rattle.model.specs.declared.Settings.{Settings}
use Rattle.model.proofs.Terms.{power_to256, lines_of, rule_fine, in_range, longs_length, words_length, marks_length, lent, lengths_fit, power_to16, Sized}
use Rattle.model.proofs.Fits.{ranged, fit, power_most}

-- a number beyond all of a list is none of them
beyond : (most n : ℕ) (xs : List ℕ) → most < n → all (λ x. leb x most) xs ≡ true → any (eqb n) xs ≡ false
beyond most n [] h e = refl
beyond most n (x ∷ xs) h e =
    let few : x ≤ most = leb-true x most (and_1 (leb x most) (all (λ x. leb x most) xs) e) in
    let other : n ≡ x → ⊥ = λ q. omega arith in
    rw (ne_eqb n x other, beyond most n xs h (and_2 (leb x most) (all (λ x. leb x most) xs) e))

-- the powers up to `most` are those of a list: up to there number by number
module _ (most : ℕ) (xs : List ℕ) (same_up_to : every (most + 1) (λ n. same (power_to most n) (any (eqb n) xs)) ≡ true) (within_most : all (λ x. leb x most) xs ≡ true) where
  listed : (n : ℕ) → power_to most n ≡ any (eqb n) xs
  listed n =
      ⊎_elim (λ h. same_is _ _ (every_at (λ n. same (power_to most n) (any (eqb n) xs)) (most + 1) n same_up_to h))
      (λ h.
      let far : most < n = omega arith in
      let over : leb n most ≡ false = no-yes (λ t. omega (arith, leb-true n most t)) in
      rw (over, beyond most n xs far within_most) (and-false (is_power_of_two n))) (lt_or_ge n (most + 1))

pub power_is : (n : ℕ) → power_to 256 n ≡ power_to256 n
unfolding lib.Count.ones
power_is = listed 256 (1 ∷ 2 ∷ 4 ∷ 8 ∷ 16 ∷ 32 ∷ 64 ∷ 128 ∷ 256 ∷ []) refl refl

pub power_16_is : (n : ℕ) → power_to 16 n ≡ power_to16 n
unfolding lib.Count.ones
power_16_is = listed 16 (1 ∷ 2 ∷ 4 ∷ 8 ∷ 16 ∷ []) refl refl

module _ (S : Settings) (r : Bool) (is : r ≡ power_to 256 S.sets) where
  power : r ≡ power_to256 S.sets
  power = is ∙ power_is S.sets

  sized : (r && within 1 16 S.ways) ≡ (power_to256 S.sets && within 1 16 S.ways)
  sized = rw power

  pub out_of_range : not (r && within 1 16 S.ways) ≡ true → false ≡ in_range S
  unfolding in_range
  out_of_range t = let h = sym sized ∙ not_yes {b = r && within 1 16 S.ways} t in rw h

  module _ (t : not (r && within 1 16 S.ways) ≡ false) where
    yes : (power_to256 S.sets && within 1 16 S.ways) ≡ true
    yes = sym sized ∙ no-not {b = r && within 1 16 S.ways} t

    pub lines-most : S.sets * S.ways ≤ 256 * 16
    lines-most =
        let h = yes in
        let p : power_to256 S.sets ≡ true = search (and_1, and_2) in
        let w : leb S.ways 16 ≡ true = search (and_1, and_2) in
        mul-le-mul (power_most _ p) (leb-true _ _ w)

    pub range-rest : {f : Bool} → f ≡ rule_fine S → (leb (lines_of S) 1024 && leb S.dirty 100 && within 1 64 S.misses && within 1 8 S.readers && within 2 64 S.queue && f) ≡ in_range S
    unfolding in_range
    range-rest g = rw (g, yes)

pub tickets_most : (S : Settings) → in_range S ≡ true → S.readers * S.misses ≤ 8 * 64
tickets_most S e = let a = ranged S e in mul-le-mul a.readers a.misses

-- no refusal 1 and no refusal 2
pub lengths_fit_lem : (S : Settings) (longs words marks : List ℕ) → in_range S ≡ true → lengths_fit S (lent longs words marks) ≡ true → Sized S longs words marks
lengths_fit_lem S longs words marks r e =
    let l : eqb (length longs) (longs_length S) ≡ true = search (and_1, and_2) in
    let w : eqb (length words) (words_length S) ≡ true = search (and_1, and_2) in
    let m : eqb (length marks) (marks_length S) ≡ true = search (and_1, and_2) in
    fit S longs words marks (r, eqb-true _ _ l, eqb-true _ _ w, eqb-true _ _ m)
