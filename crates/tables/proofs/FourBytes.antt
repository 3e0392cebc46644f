-- Four bytes as one number: a bit operation works on each byte apart, so that one test of the number asks each status byte.
use Rattle.words.proofs.General.{ℕ, ◌+◌, ◌*◌, ◌^◌, ◌<◌, arith, ◌≡◌, refl, ap, ◌∙◌, Bool, true, false, not, ◌&&◌, ◌||◌, List, get_or, eqb, ltb, eqb-true, pick, same, and_1, and_2}
use Rattle.words.proofs.General.{same_is, every_at}
use lib.Bits.{bit_and, bit_or, bit_xor, and_le_r, or_lt, xor_lt, and_block, or_block, xor_block}
use Rattle.tables.specs.Raw.{four_bytes, statuses_at, waiting_at, dirty_at, clean_at}
use Rattle.tables.proofs.Bytes.{zero_four, and_left}

-- ---- byte by byte

module _ (op : ℕ → ℕ → ℕ) (block : (k a b r s : ℕ) → r < 2 ^ k → s < 2 ^ k → op (a * 2 ^ k + r) (b * 2 ^ k + s) ≡ op a b * 2 ^ k + op r s) where
  apart : (a b c d i j k l : ℕ) → b < 256 → c < 256 → d < 256 → j < 256 → k < 256 → l < 256
      → op (four_bytes a b c d) (four_bytes i j k l) ≡ four_bytes (op a i) (op b j) (op c k) (op d l)
  apart a b c d i j k l hb hc hd hj hk hl =
      rw (block 8 ((a * 256 + b) * 256 + c) ((i * 256 + j) * 256 + k) d l hd hl, block 8 (a * 256 + b) (i * 256 + j) c k hc hk, block 8 a i b j hb hj)

  -- each with one byte n
  apart_by : (a b c d n : ℕ) → b < 256 → c < 256 → d < 256 → n < 256
      → op (four_bytes a b c d) (four_bytes n n n n) ≡ four_bytes (op a n) (op b n) (op c n) (op d n)
  apart_by a b c d n hb hc hd h = apart a b c d n n n n hb hc hd h h h

-- the top bit of a byte, of itself or of its low seven bits and n
abbrev top : ℕ → ℕ → ℕ
top n b = bit_and (bit_or (bit_and b 127 + n) b) 128

-- the same of four bytes at once
abbrev pub tops : ℕ → ℕ → ℕ
tops n x = bit_and (bit_or (bit_and x 0x7f7f7f7f + n) x) 0x80808080

module _ (n : ℕ) (h : n < 128) where
  low : (b : ℕ) → bit_and b 127 + n < 256
  low b = omega (arith, and_le_r b 127)

  sums : (a b c d : ℕ) → four_bytes a b c d + four_bytes n n n n ≡ four_bytes (a + n) (b + n) (c + n) (d + n)
  sums a b c d = omega arith

  over : (b : ℕ) → b < 256 → bit_or (bit_and b 127 + n) b < 256
  over b k = or_lt 8 (bit_and b 127 + n) b (low b) k

  tops_are : (a b c d : ℕ) → b < 256 → c < 256 → d < 256 → tops (four_bytes n n n n) (four_bytes a b c d) ≡ four_bytes (top n a) (top n b) (top n c) (top n d)
  tops_are a b c d hb hc hd =
      rw (
        apart_by bit_and and_block a b c d 127 hb hc hd (omega arith),
        sums (bit_and a 127) (bit_and b 127) (bit_and c 127) (bit_and d 127),
        apart bit_or or_block (bit_and a 127 + n) (bit_and b 127 + n) (bit_and c 127 + n) (bit_and d 127 + n) a b c d (low b) (low c) (low d) hb hc hd,
      )
      (apart_by bit_and and_block (bit_or (bit_and a 127 + n) a) (bit_or (bit_and b 127 + n) b) (bit_or (bit_and c 127 + n) c) (bit_or (bit_and d 127 + n) d) 128
      (over b hb) (over c hc) (over d hd) (omega arith))

-- ---- the tests, by what is computed of every byte

byte_above : (b : ℕ) → b < 256 → top 125 b ≡ pick (ltb 2 b) 128 0
byte_above b h = eqb-true (top 125 b) (pick (ltb 2 b) 128 0) (every_at (λ b. eqb (top 125 b) (pick (ltb 2 b) 128 0)) 256 b refl h)

byte_one : (b : ℕ) → b < 256 → top 127 (bit_xor b 1) ≡ pick (eqb b 1) 0 128
byte_one b h = eqb-true (top 127 (bit_xor b 1)) (pick (eqb b 1) 0 128) (every_at (λ b. eqb (top 127 (bit_xor b 1)) (pick (eqb b 1) 0 128)) 256 b refl h)

-- neither 1 nor above 2
abbrev clean : ℕ → Bool
clean b = not (eqb b 1) && not (ltb 2 b)

byte_clean : (b : ℕ) → b < 256 → eqb (bit_and b 253) 0 ≡ clean b
byte_clean b h = same_is (eqb (bit_and b 253) 0) (clean b) (every_at (λ b. same (eqb (bit_and b 253) 0) (clean b)) 256 b refl h)

module _ (a b c d : ℕ) (ha : a < 256) (hb : b < 256) (hc : c < 256) (hd : d < 256) where
  above_are : tops 0x7d7d7d7d (four_bytes a b c d) ≡ four_bytes (pick (ltb 2 a) 128 0) (pick (ltb 2 b) 128 0) (pick (ltb 2 c) 128 0) (pick (ltb 2 d) 128 0)
  above_are = tops_are 125 (omega arith) a b c d hb hc hd ∙ rw (byte_above a ha, byte_above b hb, byte_above c hc, byte_above d hd)

  ones_are : tops 0x7f7f7f7f (bit_xor (four_bytes a b c d) 0x01010101) ≡ four_bytes (pick (eqb a 1) 0 128) (pick (eqb b 1) 0 128) (pick (eqb c 1) 0 128) (pick (eqb d 1) 0 128)
  ones_are =
      ap (tops 0x7f7f7f7f) (apart_by bit_xor xor_block a b c d 1 hb hc hd (omega arith))
      ∙ tops_are 127 (omega arith) (bit_xor a 1) (bit_xor b 1) (bit_xor c 1) (bit_xor d 1) (turned b hb) (turned c hc) (turned d hd)
      ∙ rw (byte_one a ha, byte_one b hb, byte_one c hc, byte_one d hd)
    where
      turned : (x : ℕ) → x < 256 → bit_xor x 1 < 256
      turned x h = xor_lt 8 x 1 h (omega arith)

  clean_are : eqb (bit_and (four_bytes a b c d) 0xfdfdfdfd) 0 ≡ (clean d && (clean c && (clean b && clean a)))
  clean_are =
      ap (λ (x : ℕ). eqb x 0) (apart_by bit_and and_block a b c d 253 hb hc hd (omega arith))
      ∙ zero_four (bit_and a 253) (bit_and b 253) (bit_and c 253) (bit_and d 253)
      ∙ rw (byte_clean a ha, byte_clean b hb, byte_clean c hc, byte_clean d hd)

-- ---- one of four flags, by what is computed of all sixteen

abbrev both : (Bool → Bool) → Bool
both f = f true && f false

both_at : (f : Bool → Bool) → both f ≡ true → (b : Bool) → f b ≡ true
both_at f e true = and_1 (f true) (f false) e
both_at f e false = and_2 (f true) (f false) e

module _ (f g : Bool → Bool → Bool → Bool → Bool) where
  sixteen : both (λ p. both (λ q. both (λ r. both (λ s. same (f p q r s) (g p q r s))))) ≡ true → (p q r s : Bool) → f p q r s ≡ g p q r s
  sixteen e p q r s =
      same_is (f p q r s) (g p q r s)
      (both_at (λ s. same (f p q r s) (g p q r s))
      (both_at (λ r. both (λ s. same (f p q r s) (g p q r s)))
      (both_at (λ q. both (λ r. both (λ s. same (f p q r s) (g p q r s))))
      (both_at (λ p. both (λ q. both (λ r. both (λ s. same (f p q r s) (g p q r s))))) e p) q) r) s)

some-top : (p q r s : Bool) → not (eqb (four_bytes (pick s 128 0) (pick r 128 0) (pick q 128 0) (pick p 128 0)) 0) ≡ (p || q || r || s)
some-top = sixteen _ (λ p q r s. p || q || r || s) refl

some_clear : (p q r s : Bool) → not (eqb (four_bytes (pick s 0 128) (pick r 0 128) (pick q 0 128) (pick p 0 128)) 0x80808080) ≡ (p || q || r || s)
some_clear = sixteen _ (λ p q r s. p || q || r || s) refl

neither : (p q r s : Bool) → ((not p && not q) && (not r && not s)) ≡ (not (p || r) && not (q || s))
neither = sixteen _ (λ p q r s. not (p || r) && not (q || s)) refl

-- ---- line l

module _ (marks : List ℕ) (l : ℕ) (bytes : (i : ℕ) → get_or marks i 0 < 256) where
  abbrev first : ℕ
  first = get_or marks (4 * l) 0

  abbrev at : ℕ → ℕ
  at k = get_or marks (4 * l + k) 0

  pub dirty-statuses : not (eqb (tops 0x7d7d7d7d (statuses_at marks l)) 0) ≡ dirty_at marks l
  dirty-statuses =
      ap (λ (x : ℕ). not (eqb x 0)) (above_are (at 3) (at 2) (at 1) first (bytes _) (bytes _) (bytes _) (bytes _))
      ∙ some-top (ltb 2 first) (ltb 2 (at 1)) (ltb 2 (at 2)) (ltb 2 (at 3))

  pub waiting_statuses : not (eqb (tops 0x7f7f7f7f (bit_xor (statuses_at marks l) 0x01010101)) 0x80808080) ≡ waiting_at marks l
  waiting_statuses =
      ap (λ (x : ℕ). not (eqb x 0x80808080)) (ones_are (at 3) (at 2) (at 1) first (bytes _) (bytes _) (bytes _) (bytes _))
      ∙ some_clear (eqb first 1) (eqb (at 1) 1) (eqb (at 2) 1) (eqb (at 3) 1)

  pub clean-statuses : eqb (bit_and (statuses_at marks l) 0xfdfdfdfd) 0 ≡ clean_at marks l
  clean-statuses =
      clean_are (at 3) (at 2) (at 1) first (bytes _) (bytes _) (bytes _) (bytes _)
      ∙ and_left (clean first) (clean (at 1)) (clean (at 2)) (clean (at 3))
      ∙ rw (
        neither (eqb first 1) (ltb 2 first) (eqb (at 1) 1) (ltb 2 (at 1)),
        neither (eqb first 1 || eqb (at 1) 1) (ltb 2 first || ltb 2 (at 1)) (eqb (at 2) 1) (ltb 2 (at 2)),
      )
      (neither (eqb first 1 || eqb (at 1) 1 || eqb (at 2) 1) (ltb 2 first || ltb 2 (at 1) || ltb 2 (at 2)) (eqb (at 3) 1) (ltb 2 (at 3)))
