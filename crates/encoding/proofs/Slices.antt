-- A slice and its regions: a slice is its blocks joined exactly if each block stands in its region and nothing behind the last.
use Rattle.words.proofs.General.{ℕ, zero, suc, ◌+◌, ◌≤◌, ◌<◌, add-zero, zero-add, add_assoc, one-mul, arith, ◌≡◌, refl, sym, ap, ◌∙◌, List, [], ◌∷◌, map, length, drop, get_or}
use Rattle.words.proofs.General.{take-append-drop, drop-drop, drop-length, table, joined, region, offset_in, length-region, get_or-region, length_places, region_whole, block_region}
use Rattle.words.proofs.General.{list_table, table_same}
use Rattle.model.specs.declared.Settings.{Settings}
use Rattle.model.proofs.Terms.{Tables, long_sizes, word_sizes, mark_sizes, offset_from, offset_of, long_blocks, word_blocks, mark_blocks}

-- ---- the blocks have the layout's sizes, and begin where it says

pub long_sizes_lem : (S : Settings) (t : Tables) → map length (long_blocks S t) ≡ long_sizes S
long_sizes_lem S t = simp (length_places, one-mul)

pub word_sizes_lem : (S : Settings) (t : Tables) → map length (word_blocks S t) ≡ word_sizes S
word_sizes_lem S t = simp (length_places, one-mul)

pub mark_sizes_lem : (S : Settings) (t : Tables) → map length (mark_blocks S t) ≡ mark_sizes S
mark_sizes_lem S t = simp (length_places, one-mul)

offset_from_lem : (n : ℕ) (bs : List (List ℕ)) (j : ℕ) → offset_from n (map length bs) j ≡ n + offset_in bs j
offset_from_lem n [] zero = sym (add-zero n)
offset_from_lem n [] (suc j) = sym (add-zero n)
offset_from_lem n (b ∷ bs) zero = sym (add-zero n)
offset_from_lem n (b ∷ bs) (suc j) = offset_from_lem (n + length b) bs j ∙ add_assoc n (length b) (offset_in bs j)

ahead_offset : (bs : List (List ℕ)) (j : ℕ) → offset_in bs j ≡ offset_of (map length bs) j
ahead_offset [] zero = refl
ahead_offset [] (suc j) = refl
ahead_offset (b ∷ bs) zero = refl
ahead_offset (b ∷ bs) (suc j) = sym (offset_from_lem (length b) bs j)

-- of blocks of these sizes
pub begins : (bs : List (List ℕ)) (j : ℕ) {ns : List ℕ} → map length bs ≡ ns → offset_in bs j ≡ offset_of ns j
begins bs j e = ahead_offset bs j ∙ ap (λ (ms : List ℕ). offset_of ms j) e

-- a region, number by number
pub region_table : (l : List ℕ) (at n : ℕ) → at + n ≤ length l → region l at n ≡ table n (λ i. get_or l (at + i) 0)
region_table l at n h =
    list_table (region l at n) 0
    ∙ ap (λ (m : ℕ). table m (λ i. get_or (region l at n) i 0)) (length-region l at n h)
    ∙ table_same n (λ i. get_or (region l at n) i 0) (λ i. get_or l (at + i) 0) (λ i k. get_or-region l at n i k)

-- ---- each region stands

-- from `at` on
abbrev pub StandFrom : List ℕ → ℕ → List ℕ → List (List ℕ) → Type 0
StandFrom l at [] [] = length l ≡ at
StandFrom l at [] (b ∷ bs) = ⊥
StandFrom l at (n ∷ ns) [] = ⊥
StandFrom l at (n ∷ ns) (b ∷ bs) = (region l at n ≡ b) × StandFrom l (at + n) ns bs

-- from the first on
abbrev pub AllStand : List ℕ → List ℕ → List (List ℕ) → Type 0
AllStand l [] bs = StandFrom l 0 [] bs
AllStand l (n ∷ ns) [] = ⊥
AllStand l (n ∷ ns) (b ∷ bs) = (region l 0 n ≡ b) × StandFrom l n ns bs

from_joined : (l : List ℕ) (at : ℕ) (ns : List ℕ) (bs : List (List ℕ)) → StandFrom l at ns bs → drop at l ≡ joined bs
unfolding region
from_joined l at [] [] e = ap (λ (n : ℕ). drop n l) (sym e) ∙ drop-length l
from_joined l at [] (b ∷ bs) e = absurd e
from_joined l at (n ∷ ns) [] e = absurd e
from_joined l at (n ∷ ns) (b ∷ bs) e = sym (take-append-drop n (drop at l)) ∙ rw (drop-drop n at l, from_joined l (at + n) ns bs e.1, e.0)

pub regions_joined : (l ns : List ℕ) (bs : List (List ℕ)) → AllStand l ns bs → l ≡ joined bs
regions_joined l [] bs e = from_joined l 0 [] bs e
regions_joined l (n ∷ ns) [] e = absurd e
regions_joined l (n ∷ ns) (b ∷ bs) e = from_joined l 0 (n ∷ ns) (b ∷ bs) (e.0, rw zero-add e.1)

pub joined-region : (l : List ℕ) (bs : List (List ℕ)) (j : ℕ) → l ≡ joined bs → j < length bs
    → region l (offset_of (map length bs) j) (length (get_or bs j [])) ≡ get_or bs j []
joined-region l bs j e h =
    block_region bs j 0 {i = offset_of (map length bs) j} e (sym (ahead_offset bs j) ∙ sym (add-zero (offset_in bs j))) h (length (get_or bs j [])) (omega arith) ∙ region_whole (get_or bs j []) (length (get_or bs j [])) refl
