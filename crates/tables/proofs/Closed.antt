-- A region that closes up, where the code counts its indices another way: a turn, the zeros at its end as one, the only zero, what rows
-- take, four moves or zeros in a row; a row that is zero but for its first numbers.
use Rattle.words.proofs.General.{ℕ, zero, suc, ◌+◌, ◌-◌, ◌*◌, ◌≤◌, ◌<◌, add-zero, mul-add, arith, ◌≡◌, refl, sym, ap, ◌∙◌, List, ◌++◌, append_assoc, length, take, drop, get_or, set}
use Rattle.words.proofs.General.{replicate, length-drop, length-replicate, paste, take_all, take-paste, drop-paste, drop-drop, length-paste, get_or-set_other, set-get_or}
use Rattle.words.proofs.General.{region, put, closed_up, Closing, closing_start, closing_move, closing_zero, closing_done, length-closed, length-region, put_paste, get_or_paste_past}
use Rattle.words.proofs.General.{stride}
use Rattle.layout.proofs.Stores.{one-put}
use Rattle.layout.proofs.Filled.{Filling, filling_start, filling_turn, filling_done}
use borrow.Rule.Slice.PartMut.{put_mid}
use Rattle.words.proofs.General.{closed, length-take-le, drop_of_length-le}
use Rattle.std.proofs.lemmas.List.{drop-take}
use Rattle.tables.specs.Raw.{ZerosFrom, closed_with}

-- what `close` leaves: those behind the first `by` moved down, and what stands at the end filled
module _ {A : Type 0} (zero : A) (l : List A) (from to by : ℕ) (room : (from + by ≤ to) × (to ≤ length l)) where
  pub closed_by : {s z : List A} → s ≡ paste l from (drop (from + by) l) (to - (from + by)) → z ≡ replicate (length (take (to - (to - by)) (drop (to - by) s))) zero
      → put_mid (to - by) (to - (to - by)) s z ≡ closed_with zero l from (to - from) by
  closed_by {s} {z} e f =
      let m : ℕ = to - (from + by) in
      let d : List A = drop (from + by) l in
      let as_from : to - by ≡ from + m = omega arith in
      let as_by : to - (to - by) ≡ by = omega arith in
      let as_end : from + m + by ≡ from + (to - from) = omega arith in
      let as_left : to - from ≡ by + m = omega arith in
      let left : length d ≡ length l - (from + by) = length-drop (from + by) l in
      let long : length s ≡ length l = ap length e ∙ length-paste l from d m (omega arith) (omega arith) in
      let moved : take (to - by) s ≡ take from l ++ take m d = rw (e, as_from) (take-paste l from d m (omega arith) (omega arith)) in
      let behind : drop (to - (to - by)) (drop (to - by) s) ≡ drop (from + (to - from)) l =
      rw (e, as_by, as_from, drop-paste l from d m (omega arith) (omega arith), drop-drop by (from + m) l, as_end) in
      let filled : z ≡ replicate by zero =
      f ∙ ap (λ k. replicate k zero) (length-take-le (to - (to - by)) (drop (to - by) s) (rw length-drop (omega arith)) ∙ as_by) in
      let those : drop by (take (to - from) (drop from l)) ≡ take m d = rw (as_left, drop-take by m (drop from l), drop-drop by from l) in
      rw (moved, behind, filled, those)
      (append_assoc (take from l) (take m d) (replicate by zero ++ drop (from + (to - from)) l)
      ∙ ap (λ k. take from l ++ k) (sym (append_assoc (take m d) (replicate by zero) (drop (from + (to - from)) l))))

-- the same of numbers
pub closed-of : (l : List ℕ) (at n by : ℕ) → (by ≤ n) × (at + n ≤ length l) → closed_with 0 l at n by ≡ closed l at n by
unfolding put closed_up region
closed-of l at n by room =
    let r : List ℕ = take n (drop at l) in
    let full : length r ≡ n = length-region l at n room.1 in
    let whole : length (drop by r ++ replicate by 0) ≡ n = length-closed by r (omega arith) ∙ full in
    rw whole (sym (append_assoc (take at l) (drop by r ++ replicate by 0) (drop (at + n) l)))

pub closed_as : (l : List ℕ) (at m n by : ℕ) → m ≡ n → (by ≤ n) × (at + n ≤ length l) → {s : List ℕ} → s ≡ closed_with 0 l at m by → s ≡ closed l at n by
closed_as l at m n by e room q = q ∙ rw e (closed-of l at n by room)

-- where all of the region goes, nothing moves
pub only_row : (l : List ℕ) (at n by : ℕ) → n ≡ by → at + n ≤ length l → put l at (replicate by 0) ≡ put l at (closed_up by (region l at n))
unfolding closed_up
only_row l at n by e h =
    let full : length (region l at n) ≡ n = length-region l at n h in
    let short : length (region l at n) ≤ by = omega arith in
    rw (drop_of_length-le (region l at n) short)

pub only_one : (l : List ℕ) (at n : ℕ) → n ≡ 1 → at + n ≤ length l → set l at 0 ≡ put l at (closed_up 1 (region l at n))
only_one l at n e h = one-put l at 0 (omega arith) ∙ only_row l at n 1 e h

-- of n rows of w numbers row e goes
pub rows : (w n e : ℕ) → e < n → (w * e + w * (n - e) ≡ w * n) × (w * (n - 1 - e) + w ≡ w * (n - e)) × (w * (n - 1) + w ≡ w * n)
rows w n e h =
    let s = stride w n e h in
    let f : n - 1 - e + 1 ≡ n - e = omega arith in
    let g : n - 1 + 1 ≡ n = omega arith in
    let a : w * (n - 1 - e) + w * 1 ≡ w * (n - e) = sym (mul-add w (n - 1 - e) 1) ∙ ap (λ (x : ℕ). w * x) f in
    let b : w * (n - 1) + w * 1 ≡ w * n = sym (mul-add w (n - 1) 1) ∙ ap (λ (x : ℕ). w * x) g in
    (s.0, omega arith, omega arith)

-- ---- the loop that closes three columns up

module _ (l : List ℕ) (at n by : ℕ) (room : (by ≤ n) × (at + n ≤ length l)) where
  -- one turn
  pub start_at : (i : ℕ) → i ≡ 0 → Closing l at n by l i
  start_at i e = rw e (closing_start l at n by room)

  pub move_at : (s : List ℕ) (i j p q : ℕ) → i < n - by → p ≡ at + i → q ≡ at + i + by → j ≡ i + 1 → Closing l at n by s i → Closing l at n by (set s p (get_or s q 0)) j
  move_at s i j p q h e f g c = rw (e, f, g) (closing_move l at n by room s i h c)

  zero_at : (s : List ℕ) (i j p : ℕ) → n - by ≤ i → i < n → p ≡ at + i → j ≡ i + 1 → Closing l at n by s i → Closing l at n by (set s p 0) j
  zero_at s i j p h k e g c = rw (e, g) (closing_zero l at n by room s i h k c)

-- the zero at the end of a region that loses one number
pub closing_last : (l : List ℕ) (at n : ℕ) (room : (1 ≤ n) × (at + n ≤ length l)) (s : List ℕ) (i p : ℕ) → i ≡ n - 1 → p ≡ at + i → Closing l at n 1 s i
    → set s p 0 ≡ put l at (closed_up 1 (region l at n))
closing_last l at n room s i p e f c =
    closing_done l at n 1 room (set s p 0) n (omega arith) (zero_at l at n 1 room s i n p (omega arith) (omega arith) f (omega arith) c)

-- ---- four numbers at once

module _ (l : List ℕ) (at n : ℕ) (room : (4 ≤ n) × (at + n ≤ length l)) where
  pub closing_four : (s : List ℕ) (i j w : ℕ) → i + 4 ≤ n - 4 → w ≡ at + i → j ≡ i + 4 → Closing l at n 4 s i
      → (let a = set s w (get_or s (w + 4) 0) in let b = set a (w + 1) (get_or a (w + 5) 0) in let c = set b (w + 2) (get_or b (w + 6) 0) in
      Closing l at n 4 (set c (w + 3) (get_or c (w + 7) 0)) j)
  closing_four s i j w h e f c =
      move_at l at n 4 room _ (i + 3) j (w + 3) (w + 7) (omega arith) (omega arith) (omega arith) (omega arith)
      (move_at l at n 4 room _ (i + 2) (i + 3) (w + 2) (w + 6) (omega arith) (omega arith) (omega arith) (omega arith)
      (move_at l at n 4 room _ (i + 1) (i + 2) (w + 1) (w + 5) (omega arith) (omega arith) (omega arith) (omega arith)
      (move_at l at n 4 room s i (i + 1) w (w + 4) (omega arith) (omega arith) (omega arith) (omega arith) c)))

  pub closing_last_four : (s : List ℕ) (i w : ℕ) → i + 4 ≡ n → w ≡ at + i → Closing l at n 4 s i
      → set (set (set (set s w 0) (w + 1) 0) (w + 2) 0) (w + 3) 0 ≡ put l at (closed_up 4 (region l at n))
  closing_last_four s i w h e c =
      closing_done l at n 4 room _ n (omega arith)
      (zero_at l at n 4 room _ (i + 3) n (w + 3) (omega arith) (omega arith) (omega arith) (omega arith)
      (zero_at l at n 4 room _ (i + 2) (i + 3) (w + 2) (omega arith) (omega arith) (omega arith) (omega arith)
      (zero_at l at n 4 room _ (i + 1) (i + 2) (w + 1) (omega arith) (omega arith) (omega arith) (omega arith)
      (zero_at l at n 4 room s i (i + 1) w (omega arith) (omega arith) (omega arith) (omega arith) c))))

-- ---- a row of which all behind n numbers is 0 already

module _ (l : List ℕ) (at n row : ℕ) (few : n ≤ row) (room : at + row ≤ length l) (z : ZerosFrom l at n row) where
  rest : (m i : ℕ) {s : List ℕ} → i + m ≡ row → Filling l at row 0 s i → ((j : ℕ) → i ≤ j → j < row → get_or s (at + j) 0 ≡ 0) → s ≡ put l at (replicate row 0)
  rest zero i {s} e v a = filling_done l at row 0 room s i (omega arith) v
  rest (suc m) i {s} e v a =
      let same : set s (at + i) 0 ≡ s = ap (set s (at + i)) (sym (a i (omega arith) (omega arith))) ∙ set-get_or s (at + i) 0 in
      rest m (i + 1) (omega arith) (rw same at (filling_turn l at row 0 room s i (omega arith) v)) (λ j b. a j (omega arith))

  pub one_cleared : n ≡ 1 → set l at 0 ≡ put l at (replicate row 0)
  one_cleared e =
      let v : Filling l at row 0 (set l at 0) 1 = rw add-zero at (filling_turn l at row 0 room l 0 (omega arith) (filling_start l at row 0)) in
      rest (row - 1) 1 (omega arith) v (λ j a b. get_or-set_other l at (at + j) 0 0 (λ q. omega arith) ∙ z j (omega arith) b)

  pub few_cleared : {s : List ℕ} → s ≡ put l at (replicate n 0) → s ≡ put l at (replicate row 0)
  few_cleared {s} e =
      let long : length {A = ℕ} (replicate n 0) ≡ n = length-replicate n 0 in
      let p : s ≡ paste l at (replicate row 0) n = e ∙ sym (put_paste l at (replicate n 0) n long) ∙ ap (λ (x : List ℕ). take at l ++ x ++ drop (at + n) l) (take_all n (replicate n 0) (omega arith) ∙ sym (take-replicate n row few)) in
      rest (row - n) n (omega arith) (p, ap length p ∙ length-paste l at (replicate row 0) n (omega arith) (omega (arith, length-replicate {A = ℕ} row 0)))
      (λ j a b.
      let q : at + j ≡ at + n + (j - n) = omega arith in
      rw (p, q, get_or_paste_past l at (replicate row 0) n (j - n) (omega arith) (omega (arith, length-replicate {A = ℕ} row 0)), ← q) (z j a b))
    where
      take-replicate : (i m : ℕ) → i ≤ m → take {A = ℕ} i (replicate m 0) ≡ replicate i 0
      take-replicate zero m h = refl
      take-replicate (suc i) zero h = absurd (omega arith)
      take-replicate (suc i) (suc m) h = rw (take-replicate i m (omega arith))
