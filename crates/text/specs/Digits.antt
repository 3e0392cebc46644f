-- A number as text, and text as a number: digits, decimal and hexadecimal, what stands in a slice after text is put there.
use Prim.Native.Char.{code}
use Rattle.std.specs.Prelude.{ℕ, zero, suc, ◌+◌, ◌*◌, ◌-◌, ◌/◌, ◌%◌, ◌^◌, ◌≡◌, Bool, ◌&&◌, List, [], ◌∷◌, ◌++◌, length, drop, get_or, replicate, eqb, ltb, Option, Some, None, Result, Ok, Err}
use Rattle.std.proofs.lemmas.List.Edits.{sets}
use Rattle.words.specs.Words.{pick, within}
use Rattle.words.specs.Regions.{room}
use Rattle.text.specs.Words.{codes, passing_count}
use Rattle.text.specs.declared.Number.{Number}
use Rattle.text.specs.declared.NotANumber.{NotANumber}
use Rattle.text.specs.declared.NotANumber.TheVariants.{NoDigit, TooLarge}

-- ---- a number as text

-- the character of a digit below 16: `0` to `9`, then `a` to `f`
abbrev pub glyph_of : ℕ → ℕ
glyph_of d = pick (ltb d 10) (code "0" + d) (87 + d)

-- the last k digits of n in base b, the highest first
unfoldable pub digits : ℕ → ℕ → ℕ → List ℕ
digits b zero n = []
digits b (suc k) n = digits b k (n / b) ++ (glyph_of (n % b) ∷ [])

-- how many digits n has in base b; n steps are enough
unfoldable pub count_from : ℕ → ℕ → ℕ → ℕ
count_from b zero n = 1
count_from b (suc steps) n = pick (ltb n b) 1 (suc (count_from b steps (n / b)))

unfoldable pub digit_count : ℕ → ℕ → ℕ
digit_count b n = count_from b n n

-- n in base b with no zero in front
unfoldable pub spelled : ℕ → ℕ → List ℕ
spelled b n = digits b (digit_count b n) n

abbrev pub decimal : ℕ → List ℕ
decimal n = spelled 10 n

-- `0x`, then the digits
abbrev pub hexadecimal : ℕ → List ℕ
hexadecimal n = codes "0x" ++ spelled 16 n

-- s behind as many of a character as make it w characters
abbrev pub padded : ℕ → ℕ → List ℕ → List ℕ
padded w c s = replicate (w - length s) c ++ s

-- ---- text put into a slice

-- s stands in l from index at, and r is the index behind it; where l has no room for all of it, l is as before and r is at
pub record Put (l : List ℕ) (at : ℕ) (s : List ℕ) (r : ℕ) (l₁ : List ℕ) : Type 0 where
  pub next : r ≡ pick (room l at (length s)) (at + length s) at
  pub left : l₁ ≡ pick (room l at (length s)) (sets l at s) l

-- ---- text as a number

-- the digit of a character, 16 where it is none
abbrev pub digit_of : ℕ → ℕ
digit_of c = pick (within (code "0") (code "9") c) (c - code "0") (pick (within (code "a") (code "f") c) (c - 87) (pick (within (code "A") (code "F") c) (c - 55) 16))

abbrev pub is_digit : ℕ → ℕ → Bool
is_digit b c = ltb (digit_of c) b

-- the value of the digits that s begins with, behind those that came to v
unfoldable pub value_of : ℕ → ℕ → List ℕ → ℕ
value_of b v [] = v
value_of b v (c ∷ s) = pick (is_digit b c) (value_of b (v * b + digit_of c) s) v

-- a value with one more digit behind it, if 64 bits hold it
abbrev pub grown_of : ℕ → ℕ → ℕ → Option ℕ
grown_of v b d = pick (ltb (v * b + d) (2 ^ 64)) (Some (v * b + d)) None

-- n digits from index at come to v
abbrev pub number_of : ℕ → ℕ → ℕ → Result Number NotANumber
number_of at n v = pick (eqb n 0) (Err NoDigit) (pick (ltb v (2 ^ 64)) (Ok (record { value = v; next = at + n })) (Err TooLarge))

-- the number at an index of s, as far as its digits go
unfoldable pub number_in : ℕ → List ℕ → ℕ → Result Number NotANumber
number_in b s at = number_of at (passing_count (is_digit b) (drop at s)) (value_of b 0 (drop at s))

abbrev pub hex_at : List ℕ → ℕ → Bool
hex_at s at = eqb (get_or s at 0) (code "0") && eqb (get_or s (at + 1) 0) (code "x")

-- "decimal, or hexadecimal behind 0x"
unfoldable pub parse_number : List ℕ → ℕ → Result Number NotANumber
parse_number s at = pick (hex_at s at) (number_in 16 s (at + 2)) (number_in 10 s at)
