-- Little-endian numbers: the bytes at a place, there and back at every width.
use Rattle.words.proofs.General.{ℕ, zero, suc, min, ◌-◌, take, drop, replicate, drop-cons, length-drop, take_all, ◌+◌, ◌*◌, ◌/◌, ◌^◌, ◌≤◌, ◌<◌, div-one, div-add-mod', div-lt_iff_lt-mul}
use Rattle.words.proofs.General.{div-div-eq-div-mul, pow-suc, pow-zero, arith, ◌≡◌, refl, sym, ap, List, [], ◌∷◌, ◌++◌, length, get_or, List·getD-eq-default, lit<}
use Rattle.std.specs.Int.{bytes_low_first}
use Rattle.model.proofs.Terms.{bytes_of}
use Rattle.records.specs.Parts.{bytes_at}

-- ---- the readers

module _ (s : List ℕ) where
  -- the bytes from a place on, and zeros for those past the end
  pub bytes_part : (n at k : ℕ) → k ≡ min (length s - at) n → take k (drop at s) ++ drop k (replicate n 0) ≡ bytes_at s at n
  bytes_part zero at k e = let z : k ≡ 0 = omega arith in rw z
  bytes_part (suc n) at zero e =
      let past : length s ≤ at = omega arith in
      rw (List·getD-eq-default s 0 past) (ap (λ (l : List ℕ). 0 ∷ l) (bytes_part n (suc at) zero (omega arith)))
  bytes_part (suc n) at (suc k) e =
      let there : at < length s = omega arith in
      rw (drop-cons s at 0 there) (ap (λ (l : List ℕ). get_or s at 0 ∷ l) (bytes_part n (suc at) k (omega arith)))

  -- from a place within the slice, or its end
  pub bytes_within : (n at m k : ℕ) → m ≡ min at (length s) → k ≡ min (length (take (length s - m) (drop m s))) n
      → take k (take (length s - m) (drop m s)) ++ drop k (replicate n 0) ≡ bytes_at s at n
  bytes_within n at m k p e =
      let long : length (drop m s) ≡ length s - m = length-drop m s in
      let all : take (length s - m) (drop m s) ≡ drop m s = take_all (length s - m) (drop m s) (omega arith) in
      let most : k ≡ min (length s - m) n = rw (all, long) at e in
      rw all (by_place k most)
    where
      by_place : (k : ℕ) → k ≡ min (length s - m) n → take k (drop m s) ++ drop k (replicate n 0) ≡ bytes_at s at n
      by_place zero h = bytes_part n at zero (omega arith)
      by_place (suc k) h = let q : m ≡ at = omega arith in rw q (bytes_part n at (suc k) (omega arith))

-- ---- there and back

pub length-bytes : (n x : ℕ) → length (bytes_of n x) ≡ n
unfolding bytes_of
length-bytes zero x = refl
length-bytes (suc n) x = ap suc (length-bytes n (x / 256))

-- a number out of all the bytes of a list; at a width that is a numeral it computes as `number_at` does
abbrev pub bytes_number : List ℕ → ℕ
bytes_number [] = 0
bytes_number (b ∷ bs) = bytes_number bs * 256 + b

pub number_bytes : (n x : ℕ) → x < 256 ^ n → bytes_number (bytes_of n x) ≡ x
unfolding bytes_of
number_bytes zero x h = let e : x < 1 = rw pow-zero at h in omega arith
number_bytes (suc n) x h =
    let e : x < 256 ^ n * 256 = rw pow-suc at h in
    rw (number_bytes n (x / 256) ((div-lt_iff_lt-mul {k = 256} {x = x} {y = 256 ^ n} (lit< tt)).1 e)) (div-add-mod' x 256)

-- the library's bytes of a number
pub low_first : (k i n : ℕ) → bytes_low_first i k n ≡ bytes_of k (n / 256 ^ i)
unfolding bytes_of
low_first zero i n = refl
low_first (suc k) zero n = rw (low_first k 1 n, pow-zero, div-one)
low_first (suc k) (suc i) n =
    let e : n / 256 ^ suc (suc i) ≡ n / 256 ^ suc i / 256 = rw (pow-suc) (sym (div-div-eq-div-mul n (256 ^ suc i) 256)) in
    rw (low_first k (suc (suc i)) n, e)
