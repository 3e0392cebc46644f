-- What the functions of sectors answer.
use Rattle.words.proofs.General.{ℕ, zero, suc, ◌+◌, ◌-◌, ◌≤◌, ◌<◌, length, take, drop, length-take-le, length-drop, get_or-take, get_or-drop, arith, ◌≡◌, refl, sym, ◌∙◌, Bool, true, false, not, ◌&&◌, ◌||◌, Bool·beq, and_assoc, List, get_or, eqb, leb, lt-leb, imp, every}
use Rattle.words.proofs.General.{or_1, every_at, every_i, every-same}
use Rattle.model.specs.declared.Settings.{Settings}
use Rattle.model.proofs.Terms.{status_at, mask_at, readable_at, all_ones, sector_shape, sector_backed}
use Rattle.layout.specs.declared.Layout.{Layout}
use Rattle.soundness.specs.Shapes.{marks_shape, mask_shape}
use Rattle.soundness.proofs.Tests.{swap, every-both}

-- one test in place of two
joined : (low b p q fine : Bool) → b ≡ (p && q) → (low && b && fine) ≡ (low && p && q && fine)
joined low b p q fine e = rw (e, ← and_assoc low p q)

-- 4 and 5: but for RESERVED, the mask isn't 0 exactly if the status is MODIFIED
mask_shape_lem : (n : ℕ) (low none fine : Bool)
    → (leb n 3 && low && (eqb n 1 || Bool·beq (not none) (eqb n 3)) && fine)
    ≡ (leb n 3 && low && imp (eqb n 0 || eqb n 2) none && imp (eqb n 3) (not none) && fine)
mask_shape_lem zero low true fine = joined low true true true fine refl
mask_shape_lem zero low false fine = joined low false false true fine refl
mask_shape_lem (suc zero) low none fine = joined low true true true fine refl
mask_shape_lem (suc (suc zero)) low true fine = joined low true true true fine refl
mask_shape_lem (suc (suc zero)) low false fine = joined low false false true fine refl
mask_shape_lem (suc (suc (suc zero))) low true fine = joined low false true false fine refl
mask_shape_lem (suc (suc (suc zero))) low false fine = joined low true true true fine refl
mask_shape_lem (suc (suc (suc (suc n)))) low none fine = rw (lt-leb (suc (suc (suc (suc n)))) 3 (omega arith))

-- 6 in two parts, each beside its own
parts : (a b c d n : Bool) → (a && imp n b && (c && imp n d)) ≡ (a && c && imp n (b && d))
parts a b c d true = swap a b c d
parts a b c d false = swap a true c true

-- n numbers from number a on
pub part_read : (l : List ℕ) (a n i : ℕ) → i < n → get_or (take (a + n - a) (drop a l)) i 0 ≡ get_or l (a + i) 0
part_read l a n i h = let e : a + n - a ≡ n = omega arith in rw e (get_or-take n (drop a l) i 0 h ∙ get_or-drop a l i 0)

pub part_long : (l : List ℕ) (a n : ℕ) → a + n ≤ length l → length (take (a + n - a) (drop a l)) ≡ n
part_long l a n h = let e : a + n - a ≡ n = omega arith in rw e (length-take-le n (drop a l) (rw length-drop (omega arith)))

module _ (S : Settings) (longs words marks : List ℕ) where
  abbrev status : ℕ → ℕ
  status = status_at marks

  abbrev readable : ℕ → ℕ
  readable = readable_at S marks

  abbrev mask : ℕ → ℕ
  mask = mask_at S words

  both_shapes : (i : ℕ) → (marks_shape S marks i && mask_shape S words marks i) ≡ sector_shape S longs words marks i
  both_shapes i =
      parts (leb (status i) 3 && leb (readable i) 1) (eqb (status i) 3) (eqb (status i) 1 || Bool·beq (not (eqb (mask i) 0)) (eqb (status i) 3)) (not (eqb (mask i) all_ones)) (eqb (readable i) 0)
      ∙ mask_shape_lem (status i) (leb (readable i) 1) (eqb (mask i) 0) (imp (eqb (readable i) 0) (eqb (status i) 3 && not (eqb (mask i) all_ones)))

  pub shaped_sectors : (n : ℕ) {a b : Bool} → a ≡ every n (marks_shape S marks) → b ≡ every n (mask_shape S words marks) → (a && b) ≡ every n (sector_shape S longs words marks)
  shaped_sectors n e f =
      rw (e, f) (every-both (marks_shape S marks) (mask_shape S words marks) n
      ∙ every-same (λ i. marks_shape S marks i && mask_shape S words marks i) (sector_shape S longs words marks) n (λ i h. both_shapes i))

  -- 17 where no sector is RESERVED
  pub none_backed : (first n : ℕ) → every n (λ k. not (eqb (status (first + k)) 1)) ≡ true → true ≡ every n (λ k. sector_backed S longs words marks (first + k))
  none_backed first n e =
      sym (every_i (λ k. sector_backed S longs words marks (first + k)) n (λ k h. or_1 (not (eqb (status (first + k)) 1)) _ (every_at (λ k. not (eqb (status (first + k)) 1)) n k e h)))

-- ---- of the numbers that the code looks at

abbrev pub marks_read : Layout → List ℕ → ℕ → Bool
marks_read at marks i = leb (get_or marks i 0) 3 && leb (get_or marks (at.readables + i) 0) 1 && imp (eqb (get_or marks (at.readables + i) 0) 0) (eqb (get_or marks i 0) 3)

abbrev pub mask_read : Layout → List ℕ → List ℕ → ℕ → Bool
mask_read at words marks i =
    (eqb (get_or marks i 0) 1 || Bool·beq (not (eqb (get_or words (at.masks + i) 0) 0)) (eqb (get_or marks i 0) 3))
    && imp (eqb (get_or marks (at.readables + i) 0) 0) (not (eqb (get_or words (at.masks + i) 0) all_ones))
