-- Text put into a slice: where there is room and where not, one text behind another.
use Rattle.words.proofs.General.{ℕ, ◌+◌, ◌-◌, ◌≤◌, ◌<◌, arith, ◌≡◌, refl, sym, ◌∙◌, List, [], ◌∷◌, ◌++◌, length, length-append, length-replicate}
use Rattle.words.proofs.General.{replicate, sets, le-leb, lt-leb, sets_append}
use Rattle.std.proofs.lemmas.Slice.{put_mid-paste}
use borrow.Rule.Slice.PartMut.{put_mid}
use Rattle.words.proofs.General.{take_all, sets-eq}
use Rattle.text.specs.Digits.{Put, digit_count, spelled, padded, hexadecimal, digits}
use Rattle.text.proofs.Spelling.{length-spelled}

-- what is left by a write of s over the k places from `at` on
pub mid_sets : (l : List ℕ) (at : ℕ) (s : List ℕ) {k : ℕ} {r : List ℕ} → r ≡ s → length s ≡ k → at + k ≤ length l → put_mid at k l r ≡ sets l at s
mid_sets l at s {k} {r} q e h =
    put_mid-paste at k l r s k q refl (sym e)
    ∙ rw (take_all k s (omega arith), ← e) (sym (sets-eq s l at (omega arith)))

pub mid_filled : (l : List ℕ) (at n c : ℕ) {k m : ℕ} {r : List ℕ} → r ≡ replicate m c → m ≡ n → n ≡ k → at + k ≤ length l → put_mid at k l r ≡ sets l at (replicate n c)
mid_filled l at n c q d e h = mid_sets l at (replicate n c) (rw d at q) (length-replicate n c ∙ e) h

pub put-none : (l : List ℕ) (at : ℕ) (s : List ℕ) (n : ℕ) → length s ≡ n → length l < at + n → Put l at s at l
put-none l at s n e h = let g : length l < at + length s = rw e h in record { next = rw (lt-leb (at + length s) (length l) g); left = rw (lt-leb (at + length s) (length l) g) }

pub put_all : (l : List ℕ) (at : ℕ) (s : List ℕ) (n : ℕ) {l₁ : List ℕ} → length s ≡ n → at + n ≤ length l → l₁ ≡ sets l at s → Put l at s (at + n) l₁
put_all l at s n e h q =
    let g : at + length s ≤ length l = rw e h in
    record { next = rw (le-leb (at + length s) (length l) g, e); left = rw (le-leb (at + length s) (length l) g) q }

-- ---- one text behind another

pub joined_all : (l : List ℕ) (at : ℕ) (a s : List ℕ) {p k : ℕ} {l₁ l₂ : List ℕ} → length a ≡ p → length s ≡ k → at + (p + k) ≤ length l
    → l₁ ≡ sets l at a → l₂ ≡ sets l₁ (at + p) s → Put l at (a ++ s) (at + (p + k)) l₂
joined_all l at a s {p} {k} e d h f g = put_all l at (a ++ s) (p + k) (rw (length-append, e, d)) h (rw (g, f, ← e) (sets_append l at a s))

-- ---- `0x`, then the digits

length_hex : (n k : ℕ) → k ≡ digit_count 16 n → length (hexadecimal n) ≡ 2 + k
length_hex n k p = let e : length (spelled 16 n) ≡ k = length-spelled 16 n ∙ sym p in omega arith

pub hex_none : (l : List ℕ) (at n : ℕ) {k : ℕ} → k ≡ digit_count 16 n → length l < at + (2 + k) → Put l at (hexadecimal n) at l
hex_none l at n {k} p h = put-none l at _ (2 + k) (length_hex n k p) h

pub hex_all : (l : List ℕ) (at n : ℕ) {k : ℕ} {l₁ l₂ : List ℕ} → k ≡ digit_count 16 n → at + 2 + k ≤ length l → l₁ ≡ sets l at (48 ∷ 120 ∷ []) → l₂ ≡ sets l₁ (at + 2) (digits 16 k n) → Put l at (hexadecimal n) (at + 2 + k) l₂
unfolding spelled
hex_all l at n {k} {l₁} {l₂} p h f g =
    let e : at + 2 + k ≡ at + (2 + k) = omega arith in
    rw e (joined_all l at (48 ∷ 120 ∷ []) (spelled 16 n) {p = 2} refl (length-spelled 16 n ∙ sym p) (rw e at h) f (rw p at g))

-- ---- the characters in front, then the digits

length-padded : (w c b n k pad : ℕ) → k ≡ digit_count b n → pad ≡ w - k → length (padded w c (spelled b n)) ≡ pad + k
length-padded w c b n k pad p q = rw (length-append, length-replicate, length-spelled, q, p)

pub padded-none : (l : List ℕ) (at w c b n : ℕ) {k pad : ℕ} → k ≡ digit_count b n → pad ≡ w - k → length l < at + (pad + k) → Put l at (padded w c (spelled b n)) at l
padded-none l at w c b n {k} {pad} p q h = put-none l at _ (pad + k) (length-padded w c b n k pad p q) h

pub padded_all : (l : List ℕ) (at w c b n : ℕ) {k pad : ℕ} {l₁ l₂ : List ℕ} → k ≡ digit_count b n → pad ≡ w - k → at + (pad + k) ≤ length l
    → l₁ ≡ sets l at (replicate pad c) → l₂ ≡ sets l₁ (at + pad) (digits b k n) → Put l at (padded w c (spelled b n)) (at + (pad + k)) l₂
unfolding spelled
padded_all l at w c b n {k} {pad} {l₁} {l₂} p q h f g =
    let e : pad ≡ w - length (spelled b n) = rw (length-spelled b n, ← p) q in
    rw (← e) (joined_all l at (replicate pad c) (spelled b n) (length-replicate pad c) (length-spelled b n ∙ sym p) h f (rw p at g))
