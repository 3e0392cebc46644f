-- Laws of places and blocks: how a region of a slice, and what is put there, is that of a block, and of one record of a table.
use mathlib.Core.Path.{◌≡◌, refl, sym, ap, ◌∙◌}
use mathlib.Core.List.{List, [], ◌∷◌, ◌++◌, append_assoc, append-nil}
use Prim.Native.Nat.{ℕ, zero, suc, ◌+◌, ◌-◌, ◌*◌, ◌≤◌, ◌<◌}
use native.Mathlib.Nat.{zero-add, add_assoc, mul-zero, mul-suc, mul-add, mul-le-mul_left, le_trans, sub-zero, le_of_suc-le-suc, not-suc-le-zero, suc-add}
use native.Mathlib.Numerals.{add-one}
use native.Mathlib.Omega.{arith}
use lib.ListN.{length, take, drop, get_or, set, replicate, length-append, length-drop, length-replicate}
use lib.Seq.{take-append-le, drop-append-le, drop-append-add, take-append-add, sets, sets-eq, drop_at, take_all, drop-length, get_or-append-add, paste, paste-zero}
use Rattle.words.specs.Regions.{region, put, closed_up, closed, offset_in, dropped}
use Rattle.words.specs.Words.{pad_to, packed, joined}
use Rattle.words.proofs.Region.{get_or-region, length-closed, closed-length, paste_next, region-first}

-- ---- a slice of two parts

pub region-past : (p l : List ℕ) (k n : ℕ) → region (p ++ l) (length p + k) n ≡ region l k n
unfolding region
region-past p l k n = ap (take n) (drop-append-add p l k)

pub region-within : (p l : List ℕ) (k n : ℕ) → k + n ≤ length p → region (p ++ l) k n ≡ region p k n
unfolding region
region-within p l k n h =
    ap (take n) (drop-append-le k p l (omega arith)) ∙ take-append-le n (drop k p) l (rw length-drop (omega arith))

pub put-past : (p l : List ℕ) (k : ℕ) (r : List ℕ) → put (p ++ l) (length p + k) r ≡ p ++ put l k r
unfolding put
put-past p l k r = simp (take-append-add, add_assoc, drop-append-add, append_assoc)

pub put-within : (p l : List ℕ) (k : ℕ) (r : List ℕ) → k + length r ≤ length p → put (p ++ l) k r ≡ put p k r ++ l
unfolding put
put-within p l k r h =
    let a : k ≤ length p = omega arith in
    rw (take-append-le k p l a, drop-append-le (k + length r) p l h) (sym (append_assoc (take k p ++ r) (drop (k + length r) p) l))

pub put_whole : (l r : List ℕ) → length r ≡ length l → put l 0 r ≡ r
unfolding put
put_whole l r e = rw (zero-add, e, drop-length) (append-nil r)

pub region_whole : (l : List ℕ) (n : ℕ) → length l ≡ n → region l 0 n ≡ l
unfolding region
region_whole l n e = take_all n l (omega arith)

pub sets_put : (l : List ℕ) (i : ℕ) (vs : List ℕ) → i + length vs ≤ length l → sets l i vs ≡ put l i vs
unfolding put
sets_put l i vs h = sets-eq vs l i h

-- ---- blocks

region_block : (bs : List (List ℕ)) (j k m : ℕ) → j < length bs → k + m ≤ length (get_or bs j []) → region (joined bs) (offset_in bs j + k) m ≡ region (get_or bs j []) k m
region_block [] j k m h g = absurd (not-suc-le-zero h)
region_block (b ∷ bs) zero k m h g = rw zero-add (region-within b (joined bs) k m g)
region_block (b ∷ bs) (suc j) k m h g = rw add_assoc (region-past b (joined bs) (offset_in bs j + k) m ∙ region_block bs j k m (le_of_suc-le-suc h) g)

put_block : (bs : List (List ℕ)) (j k : ℕ) (r : List ℕ) → j < length bs → k + length r ≤ length (get_or bs j []) → put (joined bs) (offset_in bs j + k) r ≡ joined (set bs j (put (get_or bs j []) k r))
put_block [] j k r h g = absurd (not-suc-le-zero h)
put_block (b ∷ bs) zero k r h g = rw zero-add (put-within b (joined bs) k r g)
put_block (b ∷ bs) (suc j) k r h g = rw add_assoc (put-past b (joined bs) (offset_in bs j + k) r ∙ ap (λ (l : List ℕ). b ++ l) (put_block bs j k r (le_of_suc-le-suc h) g))

-- the same of a slice that is those blocks, at an index that is k past the block's start
module _ (bs : List (List ℕ)) (j k : ℕ) {l : List ℕ} {i : ℕ} (e : l ≡ joined bs) (at : i ≡ offset_in bs j + k) (h : j < length bs) where
  pub block_region : (m : ℕ) → k + m ≤ length (get_or bs j []) → region l i m ≡ region (get_or bs j []) k m
  block_region m g = rw (e, at) (region_block bs j k m h g)

  pub block_put : (r : List ℕ) → k + length r ≤ length (get_or bs j []) → put l i r ≡ joined (set bs j (put (get_or bs j []) k r))
  block_put r g = rw (e, at) (put_block bs j k r h g)

  pub block_get : k < length (get_or bs j []) → get_or l i 0 ≡ get_or (get_or bs j []) k 0
  block_get g =
      sym (region-first l i 1 (omega arith)) ∙ ap (λ (r : List ℕ). get_or r 0 0) (block_region 1 (omega arith)) ∙ region-first (get_or bs j []) k 1 (omega arith)

-- ---- strides

pub stride : (w n e : ℕ) → e < n → (w * e + w * (n - e) ≡ w * n) × (w ≤ w * (n - e)) × (w * e + w ≤ w * n)
stride w n e h =
    let z : e + (n - e) ≡ n = omega arith in
    let a : w * e + w * (n - e) ≡ w * n = sym (mul-add w e (n - e)) ∙ ap (λ (x : ℕ). w * x) z in
    let c : w * 1 ≤ w * (n - e) = mul-le-mul_left w (omega arith) in
    (a, omega arith, omega arith)

-- ---- one record

pub length-pad_to : (w : ℕ) (l : List ℕ) → length (pad_to w l) ≡ w
unfolding pad_to
length-pad_to zero l = refl
length-pad_to (suc w) [] = ap suc (length-pad_to w [])
length-pad_to (suc w) (x ∷ l) = ap suc (length-pad_to w l)

pub pad_to-zeros : (w : ℕ) → pad_to w [] ≡ replicate w 0
unfolding pad_to
pad_to-zeros zero = refl
pad_to-zeros (suc w) = ap (λ (l : List ℕ). 0 ∷ l) (pad_to-zeros w)

pub pad_to_get : (w : ℕ) (l : List ℕ) (k : ℕ) → k < w → get_or (pad_to w l) k 0 ≡ get_or l k 0
unfolding pad_to
pad_to_get zero l k h = absurd (not-suc-le-zero h)
pad_to_get (suc w) [] zero h = refl
pad_to_get (suc w) [] (suc k) h = pad_to_get w [] k (le_of_suc-le-suc h)
pad_to_get (suc w) (x ∷ l) zero h = refl
pad_to_get (suc w) (x ∷ l) (suc k) h = pad_to_get w l k (le_of_suc-le-suc h)

-- what fits stands first
pub take-pad_to : (w : ℕ) (l : List ℕ) → length l ≤ w → take (length l) (pad_to w l) ≡ l
unfolding pad_to
take-pad_to zero [] h = refl
take-pad_to zero (x ∷ l) h = absurd (not-suc-le-zero h)
take-pad_to (suc w) [] h = refl
take-pad_to (suc w) (x ∷ l) h = ap (λ (t : List ℕ). x ∷ t) (take-pad_to w l (le_of_suc-le-suc h))

pub pad_to-append : (w : ℕ) (r : List ℕ) → length r ≤ w → r ++ drop (length r) (replicate w 0) ≡ pad_to w r
unfolding pad_to
pad_to-append w [] h = sym (pad_to-zeros w)
pad_to-append zero (x ∷ r) h = absurd (not-suc-le-zero h)
pad_to-append (suc w) (x ∷ r) h = ap (λ (t : List ℕ). x ∷ t) (pad_to-append w r (le_of_suc-le-suc h))

-- ---- numbers copied out into zeros, one a turn

abbrev pub Copying : ℕ → List ℕ → List ℕ → ℕ → Type 0
Copying w r out i = out ≡ paste (replicate w 0) 0 r i

pub copying_start : (w : ℕ) (r : List ℕ) → Copying w r (replicate w 0) 0
copying_start w r = paste-zero (replicate w 0) 0 r

pub copying_turn : (w : ℕ) (r out : List ℕ) (i v : ℕ) → i < w → i < length r → get_or r i 0 ≡ v → Copying w r out i → Copying w r (set out i v) (i + 1)
copying_turn w r out i v h k e c =
    let n = length-replicate {A = ℕ} w 0 in
    let z : 0 + i ≡ i = omega arith in
    ap (λ (l : List ℕ). set l i v) c
    ∙ ap (λ (x : ℕ). set (paste (replicate w 0) 0 r i) x v) (sym z)
    ∙ paste_next (replicate w 0) 0 r i v (omega arith) k e

pub copying_done : (w : ℕ) (r out : List ℕ) (i : ℕ) → length r ≡ i → i ≤ w → Copying w r out i → out ≡ pad_to w r
copying_done w r out i e h c =
    let z : 0 + i ≡ length r = omega arith in
    c ∙ rw (take_all i r (omega arith), z) (pad_to-append w r (omega arith))

module _ {A : Type 0} (g : A → List ℕ) (w : ℕ) where
  pub length_places : (n : ℕ) (xs : List A) → length (packed g w n xs) ≡ w * n
  unfolding packed
  length_places zero xs = sym (mul-zero w)
  length_places (suc n) [] = simp (length-append, length-pad_to, mul-suc, length_places n []) (omega arith)
  length_places (suc n) (x ∷ xs) = simp (length-append, length-pad_to, mul-suc, length_places n xs) (omega arith)

  -- a block that holds them
  pub block_size : (n : ℕ) (xs : List A) (bs : List (List ℕ)) (j : ℕ) → get_or bs j [] ≡ packed g w n xs → length (get_or bs j []) ≡ w * n
  block_size n xs bs j here = ap length here ∙ length_places n xs

  -- an index past the first place
  pub place-past : (x : A) (e : ℕ) → w * suc e ≡ length (pad_to w (g x)) + w * e
  place-past x e = rw (length-pad_to, mul-suc) (omega arith)

  pub places_region : (n e : ℕ) (xs : List A) (d : A) → e < length xs → length xs ≤ n → region (packed g w n xs) (w * e) w ≡ pad_to w (g (get_or xs e d))
  unfolding packed
  places_region n e [] d h k = absurd (not-suc-le-zero h)
  places_region zero e (x ∷ xs) d h k = absurd (not-suc-le-zero k)
  places_region (suc n) zero (x ∷ xs) d h k =
      let s : length (pad_to w (g x)) ≡ w = length-pad_to w (g x) in
      rw mul-zero (region-within (pad_to w (g x)) (packed g w n xs) 0 w (omega arith) ∙ region_whole (pad_to w (g x)) w s)
  places_region (suc n) (suc e) (x ∷ xs) d h k =
      rw (place-past x e) (region-past (pad_to w (g x)) (packed g w n xs) (w * e) w ∙ places_region n e xs d (le_of_suc-le-suc h) (le_of_suc-le-suc k))

  -- a record that becomes y, as its place becomes y's numbers by what is put there
  places_change : (n e : ℕ) (xs : List A) (d y : A) (k : ℕ) (r : List ℕ) → e < length xs → length xs ≤ n → k + length r ≤ w
      → put (pad_to w (g (get_or xs e d))) k r ≡ pad_to w (g y) → put (packed g w n xs) (w * e + k) r ≡ packed g w n (set xs e y)
  unfolding packed
  places_change n e [] d y k r h m room is = absurd (not-suc-le-zero h)
  places_change zero e (x ∷ xs) d y k r h m room is = absurd (not-suc-le-zero m)
  places_change (suc n) zero (x ∷ xs) d y k r h m room is =
      rw (mul-zero, zero-add) (put-within (pad_to w (g x)) (packed g w n xs) k r (rw length-pad_to room) ∙ ap (λ (l : List ℕ). l ++ packed g w n xs) is)
  places_change (suc n) (suc e) (x ∷ xs) d y k r h m room is =
      rw (place-past x e, add_assoc)
      (put-past (pad_to w (g x)) (packed g w n xs) (w * e + k) r
      ∙ ap (λ (l : List ℕ). pad_to w (g x) ++ l) (places_change n e xs d y k r (le_of_suc-le-suc h) (le_of_suc-le-suc m) room is))

  -- past the records stand zeros
  places_split : (n m : ℕ) (xs : List A) → length xs ≤ m → packed g w (m + n) xs ≡ packed g w m xs ++ packed g w n []
  unfolding packed
  places_split n zero [] h = rw zero-add
  places_split n zero (x ∷ xs) h = absurd (not-suc-le-zero h)
  places_split n (suc m) [] h =
      rw suc-add (ap (λ (l : List ℕ). pad_to w [] ++ l) (places_split n m [] (omega arith)) ∙ sym (append_assoc (pad_to w []) (packed g w m []) (packed g w n [])))
  places_split n (suc m) (x ∷ xs) h =
      rw suc-add (ap (λ (l : List ℕ). pad_to w (g x) ++ l) (places_split n m xs (le_of_suc-le-suc h)) ∙ sym (append_assoc (pad_to w (g x)) (packed g w m xs) (packed g w n [])))

  close_first : (n : ℕ) (x : A) (xs : List A) → length xs ≤ n → closed_up w (pad_to w (g x) ++ packed g w n xs) ≡ packed g w (suc n) xs
  unfolding closed_up packed
  close_first n x xs k =
      ap (λ (l : List ℕ). l ++ replicate w 0) (drop_at (pad_to w (g x)) (packed g w n xs) w (length-pad_to w (g x)))
      ∙ ap (λ (l : List ℕ). packed g w n xs ++ l) (sym (append-nil (pad_to w []) ∙ pad_to-zeros w)) ∙ sym (places_split 1 n xs k) ∙ rw add-one

  -- to take a record out is to close up from its place on
  pub places_close : (n e : ℕ) (xs : List A) → e < length xs → length xs ≤ n → closed (packed g w n xs) (w * e) (w * (n - e)) w ≡ packed g w n (dropped e xs)
  unfolding packed
  places_close n e [] h k = absurd (not-suc-le-zero h)
  places_close zero e (x ∷ xs) h k = absurd (not-suc-le-zero k)
  places_close (suc n) zero (x ∷ xs) h k =
      let s : length (pad_to w (g x)) ≡ w = length-pad_to w (g x) in
      let l : length (pad_to w (g x) ++ packed g w n xs) ≡ w * suc n = simp (length-append, length-pad_to, mul-suc, length_places n xs) (omega arith) in
      let c : length (closed_up w (pad_to w (g x) ++ packed g w n xs)) ≡ length (pad_to w (g x) ++ packed g w n xs) = length-closed w (pad_to w (g x) ++ packed g w n xs) (rw length-append (omega arith)) in
      rw (mul-zero, sub-zero)
      (ap (λ (r : List ℕ). put (pad_to w (g x) ++ packed g w n xs) 0 (closed_up w r)) (region_whole (pad_to w (g x) ++ packed g w n xs) (w * suc n) l)
      ∙ put_whole (pad_to w (g x) ++ packed g w n xs) (closed_up w (pad_to w (g x) ++ packed g w n xs)) c ∙ close_first n x xs (le_of_suc-le-suc k))
  places_close (suc n) (suc e) (x ∷ xs) h k =
      let z : suc n - suc e ≡ n - e = omega arith in
      rw (place-past x e, z, region-past (pad_to w (g x)) (packed g w n xs) (w * e) (w * (n - e)))
      (put-past (pad_to w (g x)) (packed g w n xs) (w * e) (closed_up w (region (packed g w n xs) (w * e) (w * (n - e))))
      ∙ ap (λ (l : List ℕ). pad_to w (g x) ++ l) (places_close n e xs (le_of_suc-le-suc h) (le_of_suc-le-suc k)))

-- ---- a field of a table in a slice of blocks: to store a record anew, to read a number of one

module _ {A : Type 0} (g : A → List ℕ) (w n : ℕ) (xs : List A) (bs : List (List ℕ)) (j e : ℕ) {l : List ℕ} {i : ℕ}
    (is : l ≡ joined bs) (here : get_or bs j [] ≡ packed g w n xs) (at : i ≡ offset_in bs j + w * e) (h : j < length bs) (k : e < length xs) (few : length xs ≤ n) where
  one : w * e + w ≤ w * n
  one = let a : w * suc e ≤ w * n = mul-le-mul_left w (le_trans k few) in let b = mul-suc w e in omega arith

  pub field_put : (y : A) {r l' : List ℕ} → r ≡ pad_to w (g y) → l' ≡ put l i r → l' ≡ joined (set bs j (packed g w n (set xs e y)))
  field_put y {r} {l'} f c =
      let s = block_size g w n xs bs j here in let o = one in
      let z : length (pad_to w (g y)) ≡ w = length-pad_to w (g y) in
      let v : length (pad_to w (g (get_or xs e y))) ≡ w = length-pad_to w (g (get_or xs e y)) in
      rw (c, f, block_put bs j (w * e + 0) {i = i} is (omega arith) h (pad_to w (g y)) (omega arith), here)
      (rw (places_change g w n e xs y y 0 (pad_to w (g y)) k few (omega arith) (put_whole _ _ (z ∙ sym v))))

  pub field-region : (d : A) → region l i w ≡ pad_to w (g (get_or xs e d))
  field-region d =
      let s = block_size g w n xs bs j here in let o = one in
      block_region bs j (w * e) is at h w (omega arith) ∙ ap (λ (x : List ℕ). region x (w * e) w) here ∙ places_region g w n e xs d k few

  pub field_get : (d : A) (p : ℕ) {q : ℕ} → p < w → q ≡ i + p → get_or l q 0 ≡ get_or (pad_to w (g (get_or xs e d))) p 0
  field_get d p below f = ap (λ (x : ℕ). get_or l x 0) f ∙ sym (get_or-region l i w p below) ∙ ap (λ (x : List ℕ). get_or x p 0) (field-region d)

-- ---- numbers behind those of a record

put-zeros : (w : ℕ) (v : List ℕ) → length v ≤ w → put (pad_to w []) 0 v ≡ pad_to w v
unfolding put
put-zeros w v h = rw (zero-add, pad_to-zeros) (pad_to-append w v h)

-- numbers behind those that a record has
pub put-pad_to : (w : ℕ) (r v : List ℕ) → length r + length v ≤ w → put (pad_to w r) (length r) v ≡ pad_to w (r ++ v)
unfolding pad_to
put-pad_to w [] v h = put-zeros w v (omega arith)
put-pad_to zero (x ∷ r) v h = absurd (omega arith)
put-pad_to (suc w) (x ∷ r) v h =
    let e : suc (length r) ≡ length (x ∷ []) + length r = omega arith in
    rw e (put-past (x ∷ []) (pad_to w r) (length r) v ∙ ap (λ (t : List ℕ). x ∷ t) (put-pad_to w r v (omega arith)))

-- ---- a record behind the others, one that stays as it is, one that grows, one that goes

pub dropped_few : {A : Type 0} (e : ℕ) (xs : List A) → length (dropped e xs) ≤ length xs
dropped_few e [] = omega arith
dropped_few zero (x ∷ xs) = omega arith
dropped_few (suc e) (x ∷ xs) = omega (arith, dropped_few e xs)

module _ {A : Type 0} (g : A → List ℕ) (w : ℕ) where
  -- a record behind the others
  pub places_push : (n : ℕ) (xs : List A) (y : A) → length xs < n → length (g y) ≤ w → put (packed g w n xs) (w * length xs) (g y) ≡ packed g w n (xs ++ (y ∷ []))
  unfolding packed
  places_push zero xs y h k = absurd (not-suc-le-zero h)
  places_push (suc n) [] y h k =
      let s : length (pad_to w []) ≡ w = length-pad_to w [] in
      rw mul-zero (put-within (pad_to w []) (packed g w n []) 0 (g y) (omega arith) ∙ ap (λ (l : List ℕ). l ++ packed g w n []) (put-zeros w (g y) k))
  places_push (suc n) (x ∷ xs) y h k =
      rw (place-past g w x (length xs)) (put-past (pad_to w (g x)) (packed g w n xs) (w * length xs) (g y) ∙ ap (λ (l : List ℕ). pad_to w (g x) ++ l) (places_push n xs y (le_of_suc-le-suc h) k))

  -- one whose numbers are zeros
  pub places_push_idle : (n : ℕ) (xs : List A) (y : A) → pad_to w (g y) ≡ pad_to w [] → packed g w n (xs ++ (y ∷ [])) ≡ packed g w n xs
  unfolding packed
  places_push_idle zero xs y e = refl
  places_push_idle (suc n) [] y e = ap (λ (l : List ℕ). l ++ packed g w n []) e
  places_push_idle (suc n) (x ∷ xs) y e = ap (λ (l : List ℕ). pad_to w (g x) ++ l) (places_push_idle n xs y e)

  -- a record that becomes another with the same numbers
  pub places_same : (n e : ℕ) (xs : List A) (d y : A) → g y ≡ g (get_or xs e d) → packed g w n (set xs e y) ≡ packed g w n xs
  unfolding packed
  places_same n e [] d y h = refl
  places_same zero e (x ∷ xs) d y h = refl
  places_same (suc n) zero (x ∷ xs) d y h = rw h
  places_same (suc n) (suc e) (x ∷ xs) d y h = ap (λ (l : List ℕ). pad_to w (g x) ++ l) (places_same n e xs d y h)

  -- to close up within the first m places is enough, where the others are not used
  pub places_close_first : (n m e : ℕ) (xs : List A) → e < length xs → length xs ≤ m → m ≤ n → closed (packed g w n xs) (w * e) (w * (m - e)) w ≡ packed g w n (dropped e xs)
  places_close_first n m e xs h k f =
      let z : m + (n - m) ≡ n = omega arith in
      let t = stride w m e (omega arith) in
      let p : length (packed g w m xs) ≡ w * m = length_places g w m xs in
      let c = closed-length (packed g w m xs) (w * e) (w * (m - e)) w (t.1, omega arith) in
      ap (λ (x : ℕ). closed (packed g w x xs) (w * e) (w * (m - e)) w) (sym z)
      ∙ ap (λ (l : List ℕ). closed l (w * e) (w * (m - e)) w) (places_split g w (n - m) m xs k)
      ∙ ap (λ (r : List ℕ). put (packed g w m xs ++ packed g w (n - m) []) (w * e) (closed_up w r)) (region-within (packed g w m xs) (packed g w (n - m) []) (w * e) (w * (m - e)) (omega arith))
      ∙ put-within (packed g w m xs) (packed g w (n - m) []) (w * e) (closed_up w (region (packed g w m xs) (w * e) (w * (m - e)))) (omega arith)
      ∙ ap (λ (l : List ℕ). l ++ packed g w (n - m) []) (places_close g w m e xs h k)
      ∙ sym (places_split g w (n - m) m (dropped e xs) (omega (arith, dropped_few e xs)))
      ∙ ap (λ (x : ℕ). packed g w x (dropped e xs)) z

-- the number of a place that is not used
pub places_past : {A : Type 0} (g : A → List ℕ) (n e : ℕ) (xs : List A) → length xs ≤ e → get_or (packed g 1 n xs) e 0 ≡ 0
unfolding packed pad_to
places_past g zero e xs h = refl
places_past g (suc n) zero [] h = refl
places_past g (suc n) (suc e) [] h = places_past g n e [] (omega arith)
places_past g (suc n) zero (x ∷ xs) h = absurd (not-suc-le-zero h)
places_past g (suc n) (suc e) (x ∷ xs) h =
    let s : suc e ≡ length (pad_to 1 (g x)) + e = omega (arith, length-pad_to 1 (g x)) in
    rw (s, get_or-append-add) (places_past g n e xs (le_of_suc-le-suc h))

-- ---- the same of a field of a table in a slice of blocks

module _ {A : Type 0} (g : A → List ℕ) (w n : ℕ) (xs : List A) (bs : List (List ℕ)) (j : ℕ) {l : List ℕ}
    (is : l ≡ joined bs) (here : get_or bs j [] ≡ packed g w n xs) (h : j < length bs) (few : length xs ≤ n) where
  -- a record behind the others
  pub field_push : {i : ℕ} → i ≡ offset_in bs j + w * length xs → length xs < n → (y : A) {r l' : List ℕ} → r ≡ g y → length (g y) ≤ w → l' ≡ put l i r → l' ≡ joined (set bs j (packed g w n (xs ++ (y ∷ []))))
  field_push {i} at k y {r} {l'} f m c =
      let s = block_size g w n xs bs j here in
      let o = stride w n (length xs) k in
      rw (c, f, block_put bs j (w * length xs) is at h (g y) (omega arith), here, places_push g w n xs y k m)

  -- numbers behind those of record e
  pub field_extend : (e : ℕ) {i : ℕ} (d y : A) (v : List ℕ) → i ≡ offset_in bs j + (w * e + length (g (get_or xs e d))) → e < length xs → length (g (get_or xs e d)) + length v ≤ w → g y ≡ g (get_or xs e d) ++ v
      → {l' : List ℕ} → l' ≡ put l i v → l' ≡ joined (set bs j (packed g w n (set xs e y)))
  field_extend e {i} d y v at k m f {l'} c =
      let s = block_size g w n xs bs j here in
      let o = stride w n e (le_trans k few) in
      rw (c, block_put bs j (w * e + length (g (get_or xs e d))) is at h v (omega arith), here)
      (rw (places_change g w n e xs d y (length (g (get_or xs e d))) v k few m (put-pad_to w (g (get_or xs e d)) v m ∙ ap (pad_to w) (sym f))))

  -- a record that goes, where the first m places are used at most
  pub field_close_first : (m e : ℕ) {i : ℕ} → i ≡ offset_in bs j + w * e → e < length xs → length xs ≤ m → m ≤ n → {span : ℕ} {l' : List ℕ} → span ≡ w * (m - e) → l' ≡ closed l i span w → l' ≡ joined (set bs j (packed g w n (dropped e xs)))
  field_close_first m e {i} at k f u {span} {l'} q c =
      let s = block_size g w n xs bs j here in
      let o = stride w m e (le_trans k f) in
      let t : w * m ≤ w * n = mul-le-mul_left w u in
      let z = closed-length (get_or bs j []) (w * e) (w * (m - e)) w (o.1, omega arith) in
      c
      ∙ rw (q, block_region bs j (w * e) is at h (w * (m - e)) (omega arith), block_put bs j (w * e) is at h (closed_up w (region (get_or bs j []) (w * e) (w * (m - e)))) (omega arith), here, places_close_first g w n m e xs k f u)
