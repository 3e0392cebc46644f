-- The check of a log that comes in parts: however the log is cut, the check tells what is told of the whole log.
use Rattle.std.specs.Prelude.{Option, None, Some, Ok, Err}
use Rattle.words.proofs.General.{ℕ, zero, suc, ◌+◌, ◌-◌, ◌%◌, ◌^◌, min, ◌≤◌, ◌<◌, arith, ◌≡◌, refl, ap, ◌∙◌, ⊎_elim, Bool, true, false, not, List, [], ◌∷◌, ◌++◌}
use Rattle.words.proofs.General.{length, get_or, take, drop, length-append, length-take, length-drop, take-append-drop, get_or-append-add, eqb, ltb}
use Rattle.words.proofs.General.{ne_eqb, lt-ltb, le-leb, lt-leb, pick, flag, lt_or_ge}
use Rattle.model.proofs.Terms.{length_of}
use Rattle.comparing.specs.declared.Wrong.{Wrong}
use Rattle.comparing.specs.declared.Wrong.TheVariants as wrong
use Rattle.comparing.specs.declared.Checking.{Checking}
use Rattle.comparing.specs.Kinds.{starts_group, is_event}
use Rattle.comparing.specs.Groups.{record_end, record_past}
use Rattle.comparing.specs.Checks.{Told, fine, fault, unless_wrong, wrong_at, scanned_from, scanned, inside, or_then, checked}
use Rattle.comparing.specs.Coming.{check_beginning, begun_inside, stuck, passed_byte, passed_bytes, fault_told}
use Rattle.comparing.proofs.Walks.{past_shift, shift_test}

-- ---- one part behind the other

pub passed-append : (c : Checking) (s t : List ℕ) → passed_bytes c (s ++ t) ≡ passed_bytes (passed_bytes c s) t
unfolding passed_bytes
passed-append c [] t = refl
passed-append c (k ∷ s) t = passed-append (passed_byte c k) s t

-- ---- a scan behind other bytes

abbrev shifted : ℕ → Told → Told
shifted p (Ok x) = Ok x
shifted p (Err f) = fault f.wrong (p + f.place)

shifted_twice : (p q : ℕ) (r : Told) → shifted p (shifted q r) ≡ shifted (p + q) r
shifted_twice p q (Ok x) = refl
shifted_twice p q (Err f) = let e : p + (q + f.place) ≡ p + q + f.place = omega arith in rw e

shifted_none : (r : Told) → shifted 0 r ≡ r
shifted_none (Ok x) = refl
shifted_none (Err f) = let e : 0 + f.place ≡ f.place = omega arith in rw e

past_wrong : (o : Option Wrong) (p x : ℕ) (r : Told) → unless_wrong o (p + x) (shifted p r) ≡ shifted p (unless_wrong o x r)
past_wrong (Some w) p x r = refl
past_wrong None p x r = refl

module _ (r s : List ℕ) where
  wrong_shift : (x : ℕ) → wrong_at (r ++ s) (length r + x) ≡ wrong_at s x
  unfolding wrong_at record_end
  wrong_shift x =
      let k = length-append r s in
      let n = length_of (get_or s x 0) in
      rw (get_or-append-add r s x 0)
      (⊎_elim
      (λ l. rw (le-leb (x + 1 + n) (length s) (omega arith), le-leb (length r + x + 1 + n) (length (r ++ s)) (omega arith)))
      (λ l. rw (lt-leb (x + 1 + n) (length s) (omega arith), lt-leb (length r + x + 1 + n) (length (r ++ s)) (omega arith)))
      (lt_or_ge (x + n) (length s)))

  scan_shift : (n x : ℕ) → scanned_from n (r ++ s) (length r + x) ≡ shifted (length r) (scanned_from n s x)
  unfolding scanned_from
  scan_shift zero x = refl
  scan_shift (suc n) x =
      rw (shift_test r s x, wrong_shift x, past_shift r s x, scan_shift n (record_past s x))
      (⊎_elim (λ t. rw t (past_wrong (wrong_at s x) (length r) x (scanned_from n s (record_past s x)))) (λ t. rw t) (flag (ltb x (length s))))

-- ---- the body of a record, passed byte by byte

-- nothing wrong so far
abbrev so_far : ℕ → ℕ → ℕ → Bool → Checking
so_far passed place body within = record { passed = passed; place = place; body = body; wrong = false; inside = within }

one-within : (p q m k : ℕ) (i : Bool) → p + 1 < 2 ^ 64 → passed_byte (so_far p q (suc m) i) k ≡ so_far (p + 1) q m i
unfolding passed_byte
one-within p q m k i h =
    let e : (p + 1) % 2 ^ 64 ≡ p + 1 = omega arith in
    let f : suc m - 1 ≡ m = omega arith in
    rw (ne_eqb (suc m) 0 (λ z. omega arith), e, f)

skip_body : (m : ℕ) (s : List ℕ) (p q : ℕ) (i : Bool) → m ≤ length s → p + length s < 2 ^ 64 → passed_bytes (so_far p q m i) s ≡ passed_bytes (so_far (p + m) q 0 i) (drop m s)
unfolding passed_bytes
skip_body zero s p q i h k = let e : p + 0 ≡ p = omega arith in rw e
skip_body (suc m) [] p q i h k = absurd (omega arith)
skip_body (suc m) (x ∷ s) p q i h k =
    let e : p + suc m ≡ p + 1 + m = omega arith in
    ap (λ c. passed_bytes c s) (one-within p q m x i (omega arith)) ∙ rw e (skip_body m s (p + 1) q i (omega arith) (omega arith))

cut_body : (m : ℕ) (s : List ℕ) (p q : ℕ) (i : Bool) → length s < m → p + length s < 2 ^ 64 → fault_told (passed_bytes (so_far p q m i) s) ≡ fault wrong.CutShort q
unfolding passed_bytes fault_told
cut_body zero s p q i h k = absurd (omega arith)
cut_body (suc m) [] p q i h k = rw (ne_eqb (suc m) 0 (λ z. omega arith))
cut_body (suc m) (x ∷ s) p q i h k = ap (λ c. fault_told (passed_bytes c s)) (one-within p q m x i (omega arith)) ∙ cut_body m s (p + 1) q i (omega arith) (omega arith)

-- ---- record by record

stays_stuck : (s : List ℕ) (c : Checking) → passed_bytes (stuck c) s ≡ stuck c
unfolding passed_bytes passed_byte
stays_stuck [] c = refl
stays_stuck (k ∷ s) c = stays_stuck s c

-- what follows the last record
ends : ℕ → Bool → List ℕ → Told
ends p i [] = pick i (fault wrong.InsideGroup 0) fine
ends p i (k ∷ s) = pick (pick (eqb p 0) (not (starts_group k)) i) (fault wrong.InsideGroup 0) fine

ends_later : (p : ℕ) (i : Bool) (s : List ℕ) → 0 < p → ends p i s ≡ pick i (fault wrong.InsideGroup 0) fine
unfolding ends
ends_later p i [] h = refl
ends_later p i (k ∷ s) h = rw (ne_eqb p 0 (λ z. omega arith))

module _ (n : ℕ) (k : ℕ) (s : List ℕ) (p q : ℕ) (i : Bool) (room : p + suc (length s) < 2 ^ 64) where
  m : ℕ
  m = length_of k

  j : Bool
  j = begun_inside p i k

  RecordTold : Type 0
  RecordTold = fault_told (passed_bytes (so_far p q 0 i) (k ∷ s)) ≡ or_then (shifted p (scanned_from (suc n) (k ∷ s) 0)) (ends p i (k ∷ s))

  gets_stuck : is_event k ≡ false → passed_byte (so_far p q 0 i) k ≡ stuck (so_far p q 0 i)
  unfolding passed_byte
  gets_stuck e = rw e

  bad_kind : is_event k ≡ false → RecordTold
  unfolding RecordTold passed_bytes fault_told scanned_from wrong_at
  bad_kind e =
      let z : p + 0 ≡ p = omega arith in
      ap (λ c. fault_told (passed_bytes c s)) (gets_stuck e) ∙ ap fault_told (stays_stuck s (so_far p q 0 i)) ∙ rw (lt-ltb 0 (suc (length s)) (omega arith), e, z)

  begins : is_event k ≡ true → passed_byte (so_far p q 0 i) k ≡ so_far (p + 1) p m j
  unfolding passed_byte m j
  begins e = let z : (p + 1) % 2 ^ 64 ≡ p + 1 = omega arith in rw (e, z)

  cut_short : is_event k ≡ true → length s < m → RecordTold
  unfolding RecordTold passed_bytes scanned_from wrong_at record_end m
  cut_short e h =
      let z : p + 0 ≡ p = omega arith in
      rw (begins e, e, lt-ltb 0 (suc (length s)) (omega arith), lt-leb (0 + 1 + length_of k) (suc (length s)) (omega arith), z) (cut_body (length_of k) s (p + 1) p j h (omega arith))

  tail : m ≤ length s → scanned_from n (k ∷ s) (record_past (k ∷ s) 0) ≡ shifted (1 + m) (scanned_from n (drop m s) 0)
  unfolding record_past record_end m
  tail h =
      let l = length-take m s in
      let e : (k ∷ take m s) ++ drop m s ≡ k ∷ s = ap (λ x. k ∷ x) (take-append-drop m s) in
      let f : min (0 + 1 + length_of k) (suc (length s)) ≡ length (k ∷ take m s) + 0 = omega arith in
      let g : length (k ∷ take m s) ≡ 1 + m = omega arith in
      rw (f, ← e, scan_shift (k ∷ take m s) (drop m s) n 0, g)

  good : is_event k ≡ true → m ≤ length s → wrong_at (k ∷ s) 0 ≡ None
  unfolding wrong_at record_end m
  good e h = rw (e, le-leb (0 + 1 + length_of k) (suc (length s)) (omega arith))

  last : ends (p + 1 + m) j (drop m s) ≡ ends p i (k ∷ s)
  unfolding ends j begun_inside
  last = ends_later (p + 1 + m) j (drop m s) (omega arith)

  goes_on : is_event k ≡ true → m ≤ length s
      → fault_told (passed_bytes (so_far (p + 1 + m) p 0 j) (drop m s)) ≡ or_then (shifted (p + 1 + m) (scanned_from n (drop m s) 0)) (ends (p + 1 + m) j (drop m s)) → RecordTold
  unfolding RecordTold passed_bytes scanned_from
  goes_on e h ih =
      let z : p + (1 + m) ≡ p + 1 + m = omega arith in
      rw (begins e, lt-ltb 0 (suc (length s)) (omega arith), skip_body m s (p + 1) p j h (omega arith), good e h, tail h, shifted_twice p (1 + m) (scanned_from n (drop m s) 0), z, ← last) ih

scan_coming : (n : ℕ) (s : List ℕ) (p q : ℕ) (i : Bool) → length s ≤ n → p + length s < 2 ^ 64
    → fault_told (passed_bytes (so_far p q 0 i) s) ≡ or_then (shifted p (scanned_from n s 0)) (ends p i s)
unfolding passed_bytes fault_told scanned_from ends RecordTold m j
scan_coming zero [] p q i h room = refl
scan_coming (suc n) [] p q i h room = refl
scan_coming zero (k ∷ s) p q i h room = absurd (omega arith)
scan_coming (suc n) (k ∷ s) p q i h room =
    ⊎_elim
    (λ e.
    ⊎_elim
    (λ f. cut_short n k s p q i (omega arith) e f)
    (λ f. let d = length-drop (length_of k) s in goes_on n k s p q i (omega arith) e f (scan_coming n (drop (length_of k) s) (p + 1 + length_of k) p (begun_inside p i k) (omega arith) (omega arith)))
    (lt_or_ge (length s) (length_of k)))
    (λ e. bad_kind n k s p q i (omega arith) e)
    (flag (is_event k))

-- ---- the theorem

ends_first : (s : List ℕ) → ends 0 false s ≡ inside s
unfolding ends
ends_first [] = refl
ends_first (k ∷ s) = ⊎_elim (λ t. rw t) (λ t. rw t) (flag (starts_group k))

-- with passed-append: the parts of a log, passed in order, come to what is told of the log
pub checked_coming : (s : List ℕ) → length s < 2 ^ 64 → fault_told (passed_bytes check_beginning s) ≡ checked s
unfolding checked scanned
checked_coming s h = scan_coming (length s) s 0 0 false (omega arith) (omega arith) ∙ rw (shifted_none (scanned_from (length s) s 0), ends_first s)
