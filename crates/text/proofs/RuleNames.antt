-- The names of the replacement rules: what stands in the code's table of them; what a loop over it knows at each turn.
use Rattle.words.proofs.General.{ℕ, suc, ◌+◌, ◌≤◌, ◌<◌, add-one, arith, ◌≡◌, refl, sym, ap, ◌∙◌, Bool, true, false, List, [], ◌∷◌, map, length, drop, get_or, drop_of_length-le}
use Rattle.words.proofs.General.{get_or-inside, List·getD-map, drop-cons, by_flag}
use Rattle.std.proofs.Common.{Bor}
use Rattle.text.specs.Words.{same_text}
use Rattle.text.specs.Rules.{rule_names, rule_from, rule_named}
use Rattle.std.proofs.Common.{Option, Some, None}

-- the code's table of the names
module _ (x y z none : Bor (List ℕ)) (e : x.now ∷ y.now ∷ z.now ∷ [] ≡ rule_names) (i : ℕ) where
  abbrev rows : List (Bor (List ℕ))
  rows = x ∷ y ∷ z ∷ []

  pub name_at : i < length rule_names → (get_or rows i none).now ≡ get_or rule_names i []
  name_at h =
      sym (List·getD-map (λ (r : Bor (List ℕ)). r.now) rows i none)
      ∙ ap (λ (ns : List (List ℕ)). get_or ns i none.now) e
      ∙ get_or-inside rule_names i none.now [] h

  -- a word among the names, by what a test of name i answered
  module _ (w : List ℕ) (h : i < length rule_names) {b : Bool} (q : b ≡ same_text w (get_or rows i none).now) where
    pub rule_here : b ≡ true → Some i ≡ rule_from i (drop i rule_names) w
    unfolding rule_from
    rule_here t = rw (drop-cons rule_names i [] h, ← (name_at h), sym q ∙ t)

    pub rule-on : b ≡ false → rule_from i (drop i rule_names) w ≡ rule_from (i + 1) (drop (i + 1) rule_names) w
    unfolding rule_from
    rule-on t = rw (drop-cons rule_names i [] h, ← (name_at h), sym q ∙ t, add-one i)

pub rule-none : (w : List ℕ) (i : ℕ) → length rule_names ≤ i → None ≡ rule_from i (drop i rule_names) w
unfolding rule_from
rule-none w i h = rw (drop_of_length-le rule_names h)

-- each name reads back as its byte
names_back : map rule_named rule_names ≡ Some 0 ∷ Some 1 ∷ Some 2 ∷ []
unfolding rule_from
names_back = refl

-- a rule that a word names is one of the names
pub rule_below : (n : ℕ) (xs : List (List ℕ)) (w : List ℕ) {k : ℕ} → rule_from n xs w ≡ Some k → k < n + length xs
unfolding rule_from
rule_below n [] w e = absurd (let z : ◌≡◌ {A = ℕ} 0 1 = cc in omega arith)
rule_below n (x ∷ xs) w {k} e =
    by_flag (λ (r : Option ℕ). r ≡ Some k → k < n + suc (length xs)) (same_text w x) _ _
    (λ t q. let z : n ≡ k = cc in omega arith)
    (λ t q. let h = rule_below (suc n) xs w q in omega arith)
    e
