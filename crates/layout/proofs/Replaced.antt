-- Four sectors stored back over those that stand there: all but one place, each where it differs; then that one.
use Rattle.words.proofs.General.{ℕ, ◌+◌, ◌-◌, ◌*◌, ◌≤◌, ◌<◌, arith, ◌≡◌, refl, sym, ap, ◌∙◌, List, map, length, get_or, set}
use Rattle.words.proofs.General.{length-set, length-map, length-paste, set-set, eqb, put}
use Rattle.words.proofs.General.{map-set, put_paste, get_or_paste_past, put-set-inside, put-set-before}
use Rattle.words.proofs.General.{sets, sets_put}
use Rattle.std.proofs.lemmas.List.{get_or_default}
use Rattle.model.proofs.Terms.{status_number, bit, sectors_at}
use Rattle.model.specs.declared.Settings.{Settings}
use Rattle.model.specs.declared.Sector.{Sector}
use Rattle.encoding.proofs.DecodeIsSound.{number_back, mark_back, sector_numbers_at}
use Rattle.layout.specs.declared.Layout.{Layout}
use Rattle.layout.specs.Layout.{LaysOut}
use Rattle.layout.specs.Sectors.{LineRoom, Plain, Column, Stand, StoredBack, OthersStored, but_one}
use Rattle.layout.proofs.ByPlace.{read_from}

-- ---- a column of which one number is kept: stored one by one, put as one; four numbers that stand are that past any default

pub kept_put : (l : List ℕ) (w k : ℕ) {was is was' is' : List ℕ} {s : List ℕ} → was' ≡ was → is' ≡ is → length is ≡ 4 → w + 4 ≤ length l → s ≡ sets l w (set is' k (get_or was' k 0)) → s ≡ put l w (but_one k was is)
kept_put l w k {was} {is} a b n h e = rw (a, b) at e ∙ sets_put l w (but_one k was is) (omega (arith, length-set is k (get_or was k 0)))

pub column_any : (l : List ℕ) (w : ℕ) (ns : List ℕ) → length ns ≡ 4 → w + 4 ≤ length l → Column l w ns → (j d : ℕ) → j < 4 → get_or l (w + j) d ≡ get_or ns j d
column_any l w ns n h c j d k = get_or_default l (w + j) d 0 (omega arith) ∙ c j k ∙ sym (get_or_default ns j d 0 (omega arith))

-- behind four numbers that are put stands what stood there
pub column_past : (l : List ℕ) (q : ℕ) (ys : List ℕ) (r : ℕ) (ns : List ℕ) → length ys ≡ 4 → q + 4 ≤ r → q + 4 ≤ length l → Column l r ns → Column (put l q ys) r ns
column_past l q ys r ns n a b c j h =
    let e : r + j ≡ q + 4 + (r + j - (q + 4)) = omega arith in
    rw (← put_paste l q ys 4 n, e) (get_or_paste_past l q ys 4 (r + j - (q + 4)) (omega arith) (omega (arith, n)) ∙ rw (← e) (c j h))

-- ---- the four that stand there, and with one of them changed

pub lifted_stand : (S : Settings) {at : Layout} → LaysOut S at → (l : ℕ) (words marks : List ℕ) → Plain at l marks → Stand at l (sectors_at S words marks l) words marks
lifted_stand S {at} p l words marks plain = (
  λ j h. ap (λ (i : ℕ). get_or words i 0) (omega arith) ∙ read_from p.masks words (4 * l + j) ∙ sector_numbers_at (λ s. s.mask) S words marks l j h,
  λ j h. number_back (get_or marks (4 * l + j) 0) (plain j h).0 ∙ sector_numbers_at (λ s. status_number s.status) S words marks l j h,
  λ j h. mark_back (get_or marks (at.readables + 4 * l + j) 0) (plain j h).1
      ∙ ap (λ (n : ℕ). bit (eqb n 1)) (ap (λ (i : ℕ). get_or marks i 0) (omega arith) ∙ read_from p.readables marks (4 * l + j))
      ∙ sector_numbers_at (λ s. bit s.readable) S words marks l j h,
)

-- stored but for sector i, which is sector k
pub others_as : (at : Layout) (l : ℕ) {i k : ℕ} (found : List Sector) {four : List Sector} (x : Sector) (words marks : List ℕ) {words' marks' : List ℕ} → k ≡ i → four ≡ set found i x
    → OthersStored at l i found four words marks words' marks' → OthersStored at l k found (set found k x) words marks words' marks'
others_as at l found x words marks e f o = rw (e, ← f) o

-- ---- then the one

module _ (found : List Sector) (k : ℕ) (x : Sector) (four : length found ≡ 4) (h : k < 4) (f : Sector → ℕ) where
  size : length (but_one k (map f found) (map f (set found k x))) ≡ 4
  size = length-set (map f (set found k x)) k (get_or (map f found) k 0) ∙ length-map (set found k x) f ∙ length-set found k x ∙ four

  as_changed : set (but_one k (map f found) (map f (set found k x))) k (f x) ≡ map f (set found k x)
  as_changed = simp (map-set, set-set)

  pub changed_last : (l : List ℕ) (w : ℕ) → w + 4 ≤ length l
      → set (put l w (but_one k (map f found) (map f (set found k x)))) (w + k) (f x) ≡ put l w (map f (set found k x))
  changed_last l w g =
      put-set-inside l w (but_one k (map f found) (map f (set found k x))) k (f x) (omega (arith, size)) (omega (arith, size)) ∙ ap (put l w) as_changed

-- the same of two columns of one slice, the first before the other
module _ (found : List Sector) (k : ℕ) (x : Sector) (four : length found ≡ 4) (h : k < 4) (f g : Sector → ℕ) where
  pub changed_both : (l : List ℕ) (q r : ℕ) → q + 4 ≤ r → r + 4 ≤ length l
      → set (set (put (put l q (but_one k (map f found) (map f (set found k x)))) r (but_one k (map g found) (map g (set found k x)))) (q + k) (f x)) (r + k) (g x)
      ≡ put (put l q (map f (set found k x))) r (map g (set found k x))
  changed_both l q r a b =
      let m = size found k x four h f in
      let n : length (put l q (but_one k (map f found) (map f (set found k x)))) ≡ length l =
      ap length (sym (put_paste l q (but_one k (map f found) (map f (set found k x))) 4 m)) ∙ length-paste l q (but_one k (map f found) (map f (set found k x))) 4 (omega arith) (omega (arith, m)) in
      let first = changed_last found k x four h f l q (omega arith) in
      rw (put-set-before (put l q (but_one k (map f found) (map f (set found k x)))) r (but_one k (map g found) (map g (set found k x))) (q + k) (f x) (omega (arith, n)) (omega arith), first)
      (changed_last found k x four h g (put l q (map f (set found k x))) r
      (omega (arith, sym (ap length first) ∙ length-set (put l q (but_one k (map f found) (map f (set found k x)))) (q + k) (f x) ∙ n)))

-- all three columns, of the four that were lifted
pub replaced : (S : Settings) (at : Layout) (l k : ℕ) (x : Sector) (words marks : List ℕ) → LineRoom at l words marks → k < 4
    → {words₁ marks₁ words₂ marks₂ : List ℕ} → OthersStored at l k (sectors_at S words marks l) (set (sectors_at S words marks l) k x) words marks words₁ marks₁
    → (words₂ ≡ set words₁ (at.masks + 4 * l + k) x.mask)
    × (marks₂ ≡ set (set marks₁ (4 * l + k) (status_number x.status)) (at.readables + 4 * l + k) (bit x.readable))
    → StoredBack at l (set (sectors_at S words marks l) k x) words marks words₂ marks₂
replaced S at l k x words marks room h others own = (
  rw (own.0, others.0) (changed_last (sectors_at S words marks l) k x refl h (λ s. s.mask) words (at.masks + 4 * l) room.0),
  rw (own.1, others.1) (changed_both (sectors_at S words marks l) k x refl h (λ s. status_number s.status) (λ s. bit s.readable) marks (4 * l) (at.readables + 4 * l) room.1 room.2),
)
