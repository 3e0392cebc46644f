-- Laws of a region of a slice, what is put in its place, a region that closes up.
use mathlib.Core.Path.{◌≡◌, refl, sym, ap, ◌∙◌}
use mathlib.Core.List.{List, [], ◌∷◌, ◌++◌}
use Prim.Native.Nat.{ℕ, suc, ◌+◌, ◌-◌, ◌≤◌, ◌<◌}
use native.Mathlib.Nat.{add-zero, zero-add, suc-add}
use native.Mathlib.Numerals.{add-one, add-two, add-three}
use native.Mathlib.Omega.{arith}
use lib.ListN.{length, take, drop, get_or, set, replicate, length-append, length-drop, length-set, length-replicate, get_or-append}
use lib.Seq.{sets, paste, paste-zero, paste-suc, length_paste_head, length-take-le, take_all, get_or-append-add, get_or-take, get_or-drop, set-append_left, take-set-lt, drop-set-lt}
use Rattle.words.specs.Regions.{region, put, closed_up}
use Rattle.words.proofs.Lists.{get_or-same}

pub length-region : (l : List ℕ) (at n : ℕ) → at + n ≤ length l → length (region l at n) ≡ n
unfolding region
length-region l at n h = length-take-le n (drop at l) (rw length-drop (omega arith))

pub get_or-region : (l : List ℕ) (at n i : ℕ) → i < n → get_or (region l at n) i 0 ≡ get_or l (at + i) 0
unfolding region
get_or-region l at n i h = get_or-take n (drop at l) i 0 h ∙ get_or-drop at l i 0

pub put_paste : (l : List ℕ) (at : ℕ) (r : List ℕ) (n : ℕ) → length r ≡ n → paste l at r n ≡ put l at r
unfolding put
put_paste l at r n e = rw (take_all n r (omega arith), e)

-- past what is pasted stands what stood there
pub get_or_paste_past : (d : List ℕ) (at : ℕ) (s : List ℕ) (j k : ℕ) → at ≤ length d → j ≤ length s → get_or (paste d at s j) (at + j + k) 0 ≡ get_or d (at + j + k) 0
get_or_paste_past d at s j k h g =
    ap (λ (x : ℕ). get_or (paste d at s j) (x + k) 0) (sym (length_paste_head d at s j h g))
    ∙ get_or-append-add (take at d ++ take j s) (drop (at + j) d) k 0
    ∙ get_or-drop (at + j) d k 0

pub length-closed : (by : ℕ) (r : List ℕ) → by ≤ length r → length (closed_up by r) ≡ length r
unfolding closed_up
length-closed by r h = simp (length-append, length-drop, length-replicate) (omega arith)

pub closed_at : (by : ℕ) (r : List ℕ) (i : ℕ) → i < length r - by → get_or (closed_up by r) i 0 ≡ get_or r (by + i) 0
unfolding closed_up
closed_at by r i h =
    get_or-append (drop by r) (replicate by 0) 0 i (rw length-drop h) ∙ get_or-drop by r i 0

pub closed_zero : (by : ℕ) (r : List ℕ) (i : ℕ) → length r - by ≤ i → get_or (closed_up by r) i 0 ≡ 0
unfolding closed_up
closed_zero by r i h =
    let e : i ≡ length (drop by r) + (i - (length r - by)) = rw length-drop (omega arith) in
    ap (λ (k : ℕ). get_or (drop by r ++ replicate by 0) k 0) e
    ∙ get_or-append-add (drop by r) (replicate by 0) (i - (length r - by)) 0
    ∙ get_or-same by (i - (length r - by)) 0

-- ---- a loop that stores the numbers of r from index `at` on, one a turn: after i turns s has the first i of them

pub paste_next : (l : List ℕ) (at : ℕ) (r : List ℕ) (i v : ℕ) → at + i < length l → i < length r → get_or r i 0 ≡ v → set (paste l at r i) (at + i) v ≡ paste l at r (i + 1)
paste_next l at r i v g h e =
    ap (λ (x : ℕ). set (paste l at r i) (at + i) x) (sym e) ∙ paste-suc l at r i 0 g h ∙ ap (λ (x : ℕ). paste l at r x) (sym (add-one i))

abbrev pub Pasting : List ℕ → ℕ → List ℕ → List ℕ → ℕ → Type 0
Pasting l at r s i = (s ≡ paste l at r i) × (length s ≡ length l)

module _ (l : List ℕ) (at : ℕ) (r : List ℕ) where
  pub pasting_start : Pasting l at r l 0
  pasting_start = (paste-zero l at r, refl)

  pub pasting_turn : (s : List ℕ) (i v : ℕ) → at + length r ≤ length l → i < length r → get_or r i 0 ≡ v → Pasting l at r s i → Pasting l at r (set s (at + i) v) (i + 1)
  pasting_turn s i v room h e w = (ap (λ (x : List ℕ). set x (at + i) v) w.0 ∙ paste_next l at r i v (omega arith) h e, length-set s (at + i) v ∙ w.1)

  pub pasting_done : (s : List ℕ) (i : ℕ) → length r ≡ i → Pasting l at r s i → s ≡ put l at r
  pasting_done s i e w = w.0 ∙ put_paste l at r i e

-- ---- the two loops that close a region up

abbrev pub Closing : List ℕ → ℕ → ℕ → ℕ → List ℕ → ℕ → Type 0
Closing l at n by s i = Pasting l at (closed_up by (region l at n)) s i

module _ (l : List ℕ) (at n by : ℕ) (room : (by ≤ n) × (at + n ≤ length l)) where
  pub closed-length : length (closed_up by (region l at n)) ≡ n
  closed-length =
      let e : length (region l at n) ≡ n = length-region l at n room.1 in
      length-closed by (region l at n) (omega arith) ∙ e

  pub closing_start : Closing l at n by l 0
  closing_start = pasting_start l at (closed_up by (region l at n))

  pub closing_turn : (s : List ℕ) (i v : ℕ) → i < n → get_or (closed_up by (region l at n)) i 0 ≡ v → Closing l at n by s i → Closing l at n by (set s (at + i) v) (i + 1)
  closing_turn s i v h e w = let len = closed-length in pasting_turn l at (closed_up by (region l at n)) s i v (omega arith) (omega arith) e w

  pub closing_move : (s : List ℕ) (i : ℕ) → i < n - by → Closing l at n by s i → Closing l at n by (set s (at + i) (get_or s (at + i + by) 0)) (i + 1)
  closing_move s i h w =
      let len = closed-length in
      let full : length (region l at n) ≡ n = length-region l at n room.1 in
      closing_turn s i (get_or s (at + i + by) 0) (omega arith)
      (closed_at by (region l at n) i (omega arith)
      ∙ get_or-region l at n (by + i) (omega arith)
      ∙ ap (λ (x : ℕ). get_or l x 0) (omega arith)
      ∙ sym (get_or_paste_past l at (closed_up by (region l at n)) i by (omega arith) (omega arith))
      ∙ ap (λ (x : List ℕ). get_or x (at + i + by) 0) (sym w.0))
      w

  pub closing_zero : (s : List ℕ) (i : ℕ) → n - by ≤ i → i < n → Closing l at n by s i → Closing l at n by (set s (at + i) 0) (i + 1)
  closing_zero s i h k w =
      let full : length (region l at n) ≡ n = length-region l at n room.1 in
      closing_turn s i 0 k (closed_zero by (region l at n) i (omega arith)) w

  pub closing_done : (s : List ℕ) (i : ℕ) → i ≡ n → Closing l at n by s i → s ≡ put l at (closed_up by (region l at n))
  closing_done s i e w = pasting_done l at (closed_up by (region l at n)) s i (closed-length ∙ sym e) w

-- four stores in a row
pub sets_four : (l : List ℕ) (w a b c d : ℕ) → set (set (set (set l w a) (w + 1) b) (w + 2) c) (w + 3) d ≡ sets l w (a ∷ b ∷ c ∷ d ∷ [])
sets_four l w a b c d = rw (add-one, add-two, add-three)

pub region-first : (l : List ℕ) (at n : ℕ) → 0 < n → get_or (region l at n) 0 0 ≡ get_or l at 0
region-first l at n h = get_or-region l at n 0 h ∙ ap (λ (k : ℕ). get_or l k 0) (add-zero at)

-- ---- a run of stores

pub sets_append : (l : List ℕ) (at : ℕ) (a b : List ℕ) → sets (sets l at a) (at + length a) b ≡ sets l at (a ++ b)
sets_append l at [] b = rw add-zero
sets_append l at (x ∷ a) b =
    let e : at + suc (length a) ≡ suc at + length a = omega arith in
    rw e (sets_append (set l at x) (suc at) a b)

-- ---- one number behind a region that is put, inside it and before it

set_past : (p q : List ℕ) (k v : ℕ) → set (p ++ q) (length p + k) v ≡ p ++ set q k v
set_past [] q k v = ap (λ (i : ℕ). set q i v) (zero-add k)
set_past (x ∷ p) q k v = ap (λ (i : ℕ). set (x ∷ (p ++ q)) i v) (suc-add (length p) k) ∙ ap (λ (r : List ℕ). x ∷ r) (set_past p q k v)

pub put-set-inside : (l : List ℕ) (at : ℕ) (r : List ℕ) (k v : ℕ) → at + length r ≤ length l → k < length r → set (put l at r) (at + k) v ≡ put l at (set r k v)
unfolding put
put-set-inside l at r k v h g =
    let n : length (take at l) ≡ at = length-take-le at l (omega arith) in
    let m : length (take at l ++ r) ≡ length (take at l) + length r = length-append (take at l) r in
    set-append_left (take at l ++ r) (drop (at + length r) l) (at + k) v (omega (arith, n, m))
    ∙ ap (λ (i : ℕ). set (take at l ++ r) (i + k) v ++ drop (at + length r) l) (sym n)
    ∙ ap (λ (q : List ℕ). q ++ drop (at + length r) l) (set_past (take at l) r k v)
    ∙ ap (λ (i : ℕ). take at l ++ set r k v ++ drop (at + i) l) (sym (length-set r k v))

pub put-set-before : (l : List ℕ) (at : ℕ) (r : List ℕ) (i v : ℕ) → at ≤ length l → i < at → set (put l at r) i v ≡ put (set l i v) at r
unfolding put
put-set-before l at r i v h g =
    let n : length (take at l) ≡ at = length-take-le at l h in
    let m : length (take at l ++ r) ≡ length (take at l) + length r = length-append (take at l) r in
    set-append_left (take at l ++ r) (drop (at + length r) l) i v (omega (arith, n, m))
    ∙ ap (λ (q : List ℕ). q ++ drop (at + length r) l) (set-append_left (take at l) r i v (omega (arith, n)))
    ∙ ap (λ (q : List ℕ). q ++ r ++ drop (at + length r) l) (sym (take-set-lt at l i v g))
    ∙ ap (λ (q : List ℕ). take at (set l i v) ++ r ++ q) (sym (drop-set-lt (at + length r) l i v (omega arith)))
