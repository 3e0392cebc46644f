-- Digits: how many a number has, and the loop that writes them from the last to the first.
use Rattle.words.proofs.General.{ℕ, zero, suc, ◌+◌, ◌-◌, ◌/◌, ◌%◌, ◌≤◌, ◌<◌, div-lt_self, div-le_self, add-zero, add-one, arith, ◌≡◌, refl, ap, ◌∙◌, ◌≢◌, List, [], ◌∷◌, ◌++◌}
use Rattle.words.proofs.General.{length, set, length-append, sets, set_comm, lt-ltb, le-ltb}
use Rattle.text.specs.Digits.{glyph_of, digits, count_from, digit_count, spelled}

pub length_digits : (b k n : ℕ) → length (digits b k n) ≡ k
unfolding digits
length_digits b zero n = refl
length_digits b (suc k) n = rw (length-append, length_digits b k (n / b)) (add-one k)

pub length-spelled : (b n : ℕ) → length (spelled b n) ≡ digit_count b n
unfolding spelled
length-spelled b n = length_digits b (digit_count b n) n

-- ---- how many digits

div_below : (b n d : ℕ) → 1 < b → n ≤ suc d → n / b ≤ d
div_below b zero d g h = omega (arith, div-le_self 0 b)
div_below b (suc n) d g h = omega (arith, div-lt_self {n = suc n} {k = b} (omega arith) g)

count_steps : (b : ℕ) → 1 < b → (d e n : ℕ) → n ≤ d → n ≤ e → count_from b d n ≡ count_from b e n
unfolding count_from
count_steps b g zero zero n h k = refl
count_steps b g zero (suc e) n h k = rw (lt-ltb n b (omega arith))
count_steps b g (suc d) zero n h k = rw (lt-ltb n b (omega arith))
count_steps b g (suc d) (suc e) n h k = rw (count_steps b g d e (n / b) (div_below b n d g h) (div_below b n e g k))

pub count_more : (b n : ℕ) → 1 < b → b ≤ n → digit_count b n ≡ suc (digit_count b (n / b))
unfolding digit_count count_from
count_more b zero g h = absurd (omega arith)
count_more b (suc n) g h =
    rw (le-ltb (suc n) b h, count_steps b g n (suc n / b) (suc n / b) (div_below b (suc n) n g (omega arith)) (omega arith))

pub count_last : (b n : ℕ) → n < b → digit_count b n ≡ 1
unfolding digit_count count_from
count_last b zero h = refl
count_last b (suc n) h = rw (lt-ltb (suc n) b h)

pub div_falls : (b n : ℕ) → 1 < b → b ≤ n → n / b < n
div_falls b n g h = div-lt_self {n = n} {k = b} (omega arith) g

-- ---- the loops that write

sets_last : (l : List ℕ) (at : ℕ) (s : List ℕ) (v : ℕ) → sets l at (s ++ (v ∷ [])) ≡ sets (set l (at + length s) v) at s
sets_last l at [] v = rw add-zero
sets_last l at (x ∷ s) v =
    let e : suc at + length s ≡ at + suc (length s) = omega arith in
    let q : at ≢ at + suc (length s) = λ (z : at ≡ at + suc (length s)). omega arith in
    sets_last (set l at x) (suc at) s v ∙ rw (e, set_comm l at (at + suc (length s)) x v q)

pub spell_turn : (l : List ℕ) (at b i n : ℕ) {v : ℕ} → 0 < i → v ≡ glyph_of (n % b) → sets l at (digits b i n) ≡ sets (set l (at + (i - 1)) v) at (digits b (i - 1) (n / b))
unfolding digits
spell_turn l at b i n h q =
    let e : i ≡ suc (i - 1) = omega arith in
    ap (λ (k : ℕ). sets l at (digits b k n)) e
    ∙ sets_last l at (digits b (i - 1) (n / b)) (glyph_of (n % b))
    ∙ rw (length_digits b (i - 1) (n / b), q)

pub spell_done : (l : List ℕ) (at b i n : ℕ) → i ≤ 0 → sets l at (digits b i n) ≡ l
unfolding digits
spell_done l at b i n h = let e : i ≡ 0 = omega arith in rw e
