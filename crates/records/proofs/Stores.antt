-- Bytes stored one after the other, where there is room and where not.
use Rattle.words.proofs.General.{ℕ, ◌+◌, ◌-◌, ◌≤◌, ◌<◌, arith, ◌≡◌, sym, ◌∙◌, Bool, true, false, List, ◌++◌, length, take, drop, length-append}
use Rattle.words.proofs.General.{append_assoc, length-drop, sets, sets-eq, take-append_seam, drop-append-add, drop-drop, leb, le-leb, lt-leb, leb-true, iff, sets_append}
use borrow.Rule.Slice.PartMut.{put_mid}
use Rattle.records.specs.Stores.{stored, stored_count, Stored, Laid}

-- ---- bytes stored one after the other

module _ {l : List ℕ} {at n : ℕ} {a : List ℕ} {i : ℕ} {m : List ℕ} where
  pub laid_then : {k j : ℕ} {b h : List ℕ} → Laid l at n a i m → length a ≡ n → Laid m i k b j h → Laid l at (n + k) (a ++ b) j h
  laid_then {k} {j} {b} {h} u e v = record {
    next = omega (arith, u.next, v.next);
    slice = v.slice ∙ rw (u.slice, u.next, ← e) (sets_append l at a b);
  }

  pub laid_as : {b : List ℕ} → Laid l at n a i m → a ≡ b → Laid l at n b i m
  laid_as u e = rw (← e) u

  pub laid_sized : {k : ℕ} → Laid l at n a i m → n ≡ k → Laid l at k a i m
  laid_sized u e = rw (← e) u

-- bytes that are copied over a part of the slice
pub copied_over : (l bs : List ℕ) (at n : ℕ) {k : ℕ} {m : List ℕ} → length bs ≡ n → at + n ≤ length l → k ≡ n → m ≡ bs → put_mid at k l m ≡ sets l at bs
copied_over l bs at n e h p q = rw (sets-eq bs l at (omega arith), q, p, e, ← drop-drop, append_assoc)

-- ---- where there is room, and where not

pub room-past : (len at n : ℕ) → len < at → false ≡ leb (at + n) len
room-past len at n h = sym (lt-leb (at + n) len (omega arith))

pub room_left : (len at n : ℕ) → at ≤ len → leb n (len - at) ≡ leb (at + n) len
room_left len at n h =
    iff
    (λ e. let q : n ≤ len - at = leb-true n (len - at) e in le-leb (at + n) len (omega arith))
    (λ e. let q : at + n ≤ len = leb-true (at + n) len e in le-leb n (len - at) (omega arith))

-- by the test that the public writers make
module _ (l : List ℕ) (at : ℕ) (bs : List ℕ) {n : ℕ} {b : Bool} (e : n ≡ length bs) (q : b ≡ leb (at + n) (length l)) where
  pub room_for : b ≡ true → at + length bs ≤ length l
  room_for h = leb-true (at + length bs) (length l) (rw (← e) (sym q ∙ h))

  pub stored_there : b ≡ true → {r : ℕ} {m : List ℕ} → Laid l at (length bs) bs r m → Stored l at bs n m
  unfolding stored stored_count
  stored_there h u = let t : leb (at + length bs) (length l) ≡ true = rw (← e) (sym q ∙ h) in record { count = rw t e; slice = rw t u.slice }

  pub stored-none : b ≡ false → Stored l at bs 0 l
  unfolding stored stored_count
  stored-none h = let t : leb (at + length bs) (length l) ≡ false = rw (← e) (sym q ∙ h) in record { count = rw t; slice = rw t }

-- what a caller learns where there is room
pub was_stored : (l : List ℕ) (at : ℕ) (bs : List ℕ) {r : ℕ} {m : List ℕ} → Stored l at bs r m → at + length bs ≤ length l
    → (r ≡ length bs) × (m ≡ sets l at bs)
unfolding stored stored_count
was_stored l at bs w h = let t = le-leb (at + length bs) (length l) h in (w.count ∙ rw t, w.slice ∙ rw t)

-- behind the bytes x that stand in the slice e already
pub stored-behind : (x e bs : List ℕ) {r : ℕ} {m : List ℕ} → Stored (x ++ drop (length x) e) (length x) bs r m → length x + length bs ≤ length e
    → (r ≡ length bs) × (m ≡ (x ++ bs) ++ drop (length (x ++ bs)) e)
stored-behind x e bs w h =
    let n = length x in
    let long : length (x ++ drop n e) ≡ length e = rw (length-append, length-drop) (omega arith) in
    let s = was_stored (x ++ drop n e) n bs w (rw long h) in
    let split : sets (x ++ drop n e) n bs ≡ take n (x ++ drop n e) ++ bs ++ drop (n + length bs) (x ++ drop n e) = sets-eq bs (x ++ drop n e) n (rw long h) in
    (s.0, s.1 ∙ split ∙ rw (take-append_seam, drop-append-add, drop-drop, ← length-append))
