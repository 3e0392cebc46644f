-- Laws of flags: conjunction, disjunction, negation, implication, and choice by a flag.
use mathlib.Core.Path.{◌≡◌, refl, sym, ◌∙◌}
use mathlib.Core.Logic.{◌⊎◌, inl, inr}
use mathlib.Core.Bool.{Bool, true, false, not, ◌&&◌, ◌||◌, true≢false, false≢true, and_assoc, and-true, and-false, or_assoc, or-true, or-false, not-not}
use Rattle.words.specs.Words.{pick, same, imp}

pub and_1 : (a b : Bool) → (a && b) ≡ true → a ≡ true
and_1 true b e = refl
and_1 false b e = e

pub and_2 : (a b : Bool) → (a && b) ≡ true → b ≡ true
and_2 true b e = e
and_2 false b e = absurd (false≢true e)

pub and_i : {a b : Bool} → a ≡ true → b ≡ true → (a && b) ≡ true
and_i p q = rw (p, q)

pub and_no : (a b : Bool) → b ≡ false → (a && b) ≡ false
and_no a b e = rw (e, and-false)

pub or_cases : (a b : Bool) → (a || b) ≡ true → (a ≡ true) ⊎ (b ≡ true)
or_cases true b e = inl refl
or_cases false b e = inr e

pub or_1 : (a b : Bool) → a ≡ true → (a || b) ≡ true
or_1 a b p = rw p

pub or_2 : (a b : Bool) → b ≡ true → (a || b) ≡ true
or_2 a b p = rw (p, or-true)

pub or_unless : (a b : Bool) → (a ≡ false → b ≡ true) → (a || b) ≡ true
or_unless true b f = refl
or_unless false b f = f refl

pub or_no_1 : (a b : Bool) → (a || b) ≡ false → a ≡ false
or_no_1 true b e = e
or_no_1 false b e = refl

pub or_no_2 : (a b : Bool) → (a || b) ≡ false → b ≡ false
or_no_2 true b e = absurd (true≢false e)
or_no_2 false b e = e

pub flag : (b : Bool) → (b ≡ true) ⊎ (b ≡ false)
flag true = inl refl
flag false = inr refl

pub not_yes : {b : Bool} → not b ≡ true → b ≡ false
not_yes {b = true} e = sym e
not_yes {b = false} e = refl

-- from false held true, anything
pub false_is_true : {X : Type 0} → false ≡ true → X
false_is_true e = absurd (false≢true e)

pub clash {ℓ} : {X : Type ℓ} {b : Bool} → b ≡ true → b ≡ false → X
clash p q = absurd (true≢false (sym p ∙ q))

pub iff : {a b : Bool} → (a ≡ true → b ≡ true) → (b ≡ true → a ≡ true) → a ≡ b
iff {a = true} {b} f g = sym (f refl)
iff {a = false} {b = true} f g = g refl
iff {a = false} {b = false} f g = refl

pub not-no : {b : Bool} → b ≡ false → not b ≡ true
not-no e = rw e

pub no-not : {b : Bool} → not b ≡ false → b ≡ true
no-not {b = true} e = refl
no-not {b = false} e = sym e

pub no-yes : {b : Bool} → (b ≡ true → ⊥) → b ≡ false
no-yes {b = true} f = absurd (f refl)
no-yes {b = false} f = refl

pub by_flag : {X : Type 0} (P : X → Type 0) (b : Bool) (x y : X) → (b ≡ true → P x) → (b ≡ false → P y) → P (pick b x y)
by_flag P true x y f g = f refl
by_flag P false x y f g = g refl

pub pick_both : {X : Type 0} (P : X → Type 0) (b : Bool) {x y : X} → P x → P y → P (pick b x y)
pick_both P b f g = by_flag P b _ _ (λ e. f) (λ e. g)

pub same_is : (a b : Bool) → same a b ≡ true → a ≡ b
same_is true b e = sym e
same_is false b e = sym (not_yes e)

pub is_same : (a b : Bool) → a ≡ b → same a b ≡ true
is_same true b e = sym e
is_same false b e = rw (← e)

pub imp_use : (a b : Bool) → imp a b ≡ true → a ≡ true → b ≡ true
imp_use true b e h = e
imp_use false b e h = absurd (false≢true h)

pub imp_i : (a b : Bool) → (a ≡ true → b ≡ true) → imp a b ≡ true
imp_i true b f = f refl
imp_i false b f = refl

-- what a function answers where its test fails at once, and where it goes on
pub imp-idle : (a b : Bool) → a ≡ false → true ≡ imp a b
imp-idle a b e = rw e

pub imp_met : (a b r : Bool) → a ≡ true → r ≡ b → r ≡ imp a b
imp_met a b r e q = rw (e, q)

-- a conjunction and a disjunction, denied
pub not-both : (a b : Bool) → not (a && b) ≡ (not a || not b)
not-both true b = refl
not-both false b = refl

pub not_either : (a b : Bool) → not (a || b) ≡ (not a && not b)
not_either true b = refl
not_either false b = refl

pub not_but : (a b : Bool) → not (a && not b) ≡ imp a b
not_but a b = simp (not-both, not-not)

-- what an answer r says of the test b that it is
pub told-yes : {r b : Bool} → r ≡ b → r ≡ true → b ≡ true
told-yes e t = cc

pub told-no : {r b : Bool} → r ≡ b → r ≡ false → b ≡ false
told-no e t = cc

-- `if !r` after a call whose answer is r
pub said_no : {r b : Bool} → r ≡ b → not r ≡ true → b ≡ false
said_no e t = sym e ∙ not_yes t

pub said_yes : {r b : Bool} → r ≡ b → not r ≡ false → b ≡ true
said_yes e t = sym e ∙ no-not t

-- four tests one after the other, as a list has them
pub and_four : (a b c d : Bool) → (a && (b && (c && (d && true)))) ≡ (a && b && c && d)
and_four a b c d = simp (and_assoc, and-true)

pub or_four : (a b c d : Bool) → (a || (b || (c || (d || false)))) ≡ (a || b || c || d)
or_four a b c d = simp (or_assoc, or-false)
