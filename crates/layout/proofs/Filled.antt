-- A region filled with one number, turn by turn; slices so filled are the encoding of fresh tables.
use Rattle.words.proofs.General.{ℕ, zero, suc, ◌+◌, ◌-◌, ◌*◌, ◌≤◌, ◌<◌, mul-zero, mul-suc, arith, ◌≡◌, refl, sym, ap, ◌∙◌, List, [], ◌++◌, append-nil, ◌∷◌, length, take, drop, set}
use Rattle.words.proofs.General.{replicate, length-replicate, get_or-replicate, replicate-append-replicate, pad_to, packed, joined, put, Pasting, pasting_start, pasting_turn}
use Rattle.words.proofs.General.{pasting_done, pad_to-zeros, put_whole, put-past, put-within}
use borrow.Rule.Slice.PartMut.{put_mid}
use Rattle.layout.proofs.Parts.{part_filled}
use Rattle.model.specs.declared.Settings.{Settings}
use Rattle.model.proofs.Terms.{lines_of, fresh, start, longs_length, words_length, marks_length, lent, tag_of, cycle_of, taken_of, tree_of, masks_of, statuses_of, readables_of, miss_of}
use Rattle.model.proofs.Terms.{sent_of, ticket_count_of, tickets_in, queued_of, kind_of, queue_masks_of, long_blocks, word_blocks, mark_blocks, encode, Sized, told}

-- ---- the loops: after i turns l has i times v from index `at`

abbrev pub Filling : List ℕ → ℕ → ℕ → ℕ → List ℕ → ℕ → Type 0
Filling l at n v s i = Pasting l at (replicate n v) s i

pub filling_start : (l : List ℕ) (at n v : ℕ) → Filling l at n v l 0
filling_start l at n v = pasting_start l at (replicate n v)

module _ (l : List ℕ) (at n v : ℕ) (room : at + n ≤ length l) where
  pub filling_turn : (s : List ℕ) (i : ℕ) → i < n → Filling l at n v s i → Filling l at n v (set s (at + i) v) (i + 1)
  filling_turn s i h f =
      let len : length (replicate n v) ≡ n = length-replicate n v in
      pasting_turn l at (replicate n v) s i v (omega arith) (omega arith) (get_or-replicate n i v 0 h) f

  pub filling_done : (s : List ℕ) (i : ℕ) → i ≡ n → Filling l at n v s i → s ≡ put l at (replicate n v)
  filling_done s i e f = pasting_done l at (replicate n v) s i (length-replicate n v ∙ sym e) f

-- ---- the blocks of fresh tables

abbrev zeros : ℕ → List ℕ
zeros n = replicate n 0

as_many : (v : ℕ) {m n : ℕ} → m ≡ n → replicate m v ≡ replicate n v
as_many v {m} {n} e = ap (λ (k : ℕ). replicate k v) e

module _ {A : Type 0} (g : A → List ℕ) (w : ℕ) where
  -- n times the same record, of one number in all its places
  even_places : (x : A) (v n : ℕ) → pad_to w (g x) ≡ replicate w v → packed g w n (replicate n x) ≡ replicate (w * n) v
  unfolding packed
  even_places x v zero e = rw (mul-zero w)
  even_places x v (suc n) e =
      let k : w + w * n ≡ w * suc n = rw mul-suc (omega arith) in
      rw (e, even_places x v n e, replicate-append-replicate) (as_many v k)

  no_places : (n : ℕ) → packed g w n [] ≡ zeros (w * n)
  unfolding packed
  no_places zero = rw (mul-zero w)
  no_places (suc n) =
      let k : w + w * n ≡ w * suc n = rw mul-suc (omega arith) in
      rw (pad_to-zeros, no_places n, replicate-append-replicate) (as_many 0 k)

-- zeros with v in the place of those from n to 2 n
put_between : (n m v : ℕ) → put (zeros (n + (n + m))) n (replicate n v) ≡ zeros n ++ (replicate n v ++ zeros m)
put_between n m v =
    let a : length (zeros n) ≡ n = length-replicate n 0 in
    let b : length (replicate n v) ≡ n = length-replicate n v in
    let d : 0 + length (replicate n v) ≤ length (zeros n) = omega arith in
    let e : length (replicate n v) ≡ length (zeros n) = omega arith in
    let c : length (zeros n) + 0 ≡ n = omega arith in
    let past = rw c at (put-past (zeros n) (zeros (n + m)) 0 (replicate n v)) in
    rw (← replicate-append-replicate {A = ℕ} n (n + m) 0, past, ← replicate-append-replicate {A = ℕ} n m 0, put-within (zeros n) (zeros m) 0 (replicate n v) d, put_whole (zeros n) (replicate n v) e)

module _ (S : Settings) where
  abbrev n : ℕ
  n = lines_of S

  fresh_longs : joined (long_blocks S (start S)) ≡ zeros (longs_length S)
  unfolding pad_to
  fresh_longs =
      let k : 1 * n + (1 * S.misses + 1 * S.queue) ≡ longs_length S = omega arith in
      rw (even_places tag_of 1 fresh 0 n refl, no_places miss_of 1 S.misses, no_places queued_of 1 S.queue, append-nil, replicate-append-replicate, replicate-append-replicate)
      (as_many 0 k)

  fresh-words : joined (word_blocks S (start S)) ≡ zeros (words_length S)
  unfolding pad_to
  fresh-words =
      let k : suc (1 * n + (4 * n + (S.readers * S.misses + (4 * S.queue + suc (1 * n + 1 * S.sets))))) ≡ words_length S = omega arith in
      let tail : zeros (1 * n) ++ zeros (1 * S.sets) ≡ zeros (1 * n + 1 * S.sets) = replicate-append-replicate (1 * n) (1 * S.sets) 0 in
      let last : zeros (4 * S.queue) ++ (0 ∷ zeros (1 * n + 1 * S.sets)) ≡ zeros (4 * S.queue + suc (1 * n + 1 * S.sets)) = replicate-append-replicate (4 * S.queue) (suc (1 * n + 1 * S.sets)) 0 in
      rw (even_places cycle_of 1 fresh 0 n refl, even_places masks_of 4 fresh 0 n refl, no_places tickets_in S.readers S.misses, no_places queue_masks_of 4 S.queue, even_places taken_of 1 fresh 0 n refl, even_places tree_of 1 0 0 S.sets refl, append-nil, tail, last, replicate-append-replicate, replicate-append-replicate, replicate-append-replicate)
      (as_many 0 k)

  fresh_marks : joined (mark_blocks S (start S)) ≡ put (zeros (marks_length S)) (4 * n) (replicate (4 * n) 1)
  unfolding pad_to
  fresh_marks =
      let m = 1 * S.misses + (1 * S.misses + 1 * S.queue) in
      let k : marks_length S ≡ 4 * n + (4 * n + m) = omega arith in
      rw (even_places statuses_of 4 fresh 0 n refl, even_places readables_of 4 fresh 1 n refl, no_places sent_of 1 S.misses, no_places ticket_count_of 1 S.misses, no_places kind_of 1 S.queue, append-nil, replicate-append-replicate, replicate-append-replicate)
      (sym (ap (λ (j : ℕ). put (zeros j) (4 * n) (replicate (4 * n) 1)) k ∙ put_between (4 * n) m 1))

-- what `make_fresh` leaves
pub fresh-filled : (S : Settings) (longs words marks : List ℕ) {l w z r : List ℕ} → Sized S longs words marks
    → l ≡ zeros (length longs) → w ≡ zeros (length words) → z ≡ zeros (length marks)
    → r ≡ replicate (length (take (2 * (4 * lines_of S) - 4 * lines_of S) (drop (4 * lines_of S) z))) 1
    → lent l w (put_mid (4 * lines_of S) (2 * (4 * lines_of S) - 4 * lines_of S) z r) ≡ encode S (start S)
unfolding encode
fresh-filled S longs words marks {l} {w} {z} {r} f a b c d =
    let as_long : 2 * (4 * lines_of S) - 4 * lines_of S ≡ 4 * lines_of S = omega arith in
    let e : l ≡ joined (long_blocks S (start S)) = a ∙ as_many 0 f.longs_long ∙ sym (fresh_longs S) in
    let g : w ≡ joined (word_blocks S (start S)) = b ∙ as_many 0 (told f.words_long) ∙ sym (fresh-words S) in
    let y : z ≡ zeros (marks_length S) = c ∙ as_many 0 f.marks_long in
    let long : length z ≡ marks_length S = ap length y ∙ length-replicate (marks_length S) 0 in
    let h : put_mid (4 * lines_of S) (2 * (4 * lines_of S) - 4 * lines_of S) z r ≡ joined (mark_blocks S (start S)) =
    part_filled z (4 * lines_of S) (2 * (4 * lines_of S) - 4 * lines_of S) 1 (omega arith) d
    ∙ rw as_long (ap (λ (x : List ℕ). put x (4 * lines_of S) (replicate (4 * lines_of S) 1)) y) ∙ sym (fresh_marks S) in
    rw (e, g, h)
