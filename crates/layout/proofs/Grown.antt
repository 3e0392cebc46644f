-- A field of one number, not 0 in the records: the first place that is not used tells how many there are.
use Rattle.words.proofs.General.{ℕ, ◌+◌, ◌*◌, ◌≤◌, ◌<◌, arith, ◌≡◌, sym, ap, ◌∙◌, List, [], length, get_or, pad_to, packed, joined, offset_in, squeeze, block_get, field_get}
use Rattle.words.proofs.General.{places_past, block_size}
use Rattle.layout.specs.Places.{First}

module _ {A : Type 0} (g : A → List ℕ) (n : ℕ) (xs : List A) (bs : List (List ℕ)) (j : ℕ) {l : List ℕ} {i : ℕ}
    (is : l ≡ joined bs) (here : get_or bs j [] ≡ packed g 1 n xs) (at : i ≡ offset_in bs j) (h : j < length bs) (few : length xs ≤ n)
    (d : A) (not-0 : (k : ℕ) → k < length xs → get_or (pad_to 1 (g (get_or xs k d))) 0 0 ≡ 0 → ⊥) where
  value : (k : ℕ) → k < length xs → get_or l (i + k) 0 ≡ get_or (pad_to 1 (g (get_or xs k d))) 0 0
  value k below = field_get g 1 n xs bs j k {i = i + k} is here (omega arith) h below few d 0 (omega arith) (omega arith)

  rest : length xs < n → get_or l (i + length xs) 0 ≡ 0
  rest below =
      let s : length (get_or bs j []) ≡ 1 * n = block_size g 1 n xs bs j here in
      block_get bs j (length xs) is (omega arith) h (omega arith) ∙ ap (λ (b : List ℕ). get_or b (length xs) 0) here ∙ places_past g n (length xs) xs (omega arith)

  pub field_used : {r : ℕ} → First l i n 0 r → r ≡ length xs
  field_used {r} f =
      squeeze r (length xs) (λ c. not-0 r c (sym (value r c) ∙ f.there (omega arith))) (λ c. let most = f.most in f.before (length xs) (omega arith) (rest (omega arith)))
