-- The constant table of lengths: its rule, by one computed test over the whole table; no kind is past it; the kinds of commands and of settings.
use Rattle.words.proofs.General.{ℕ, ◌≤◌, ◌<◌, arith, ◌≡◌, refl, sym, ◌∙◌, ⊎_elim, Bool, true, ◌||◌, or-false, List, [], ◌∷◌, ◌++◌, get_or, eqb, leb, ltb, ne_eqb, eqb-true, leb-true}
use Rattle.words.proofs.General.{ltb-true, ltb-false, all, every, same, and_1, and_2, flag, same_is, none-past, every_at}
use Rattle.model.specs.RecordsOf as records
use Rattle.model.proofs.Terms.{Kind, command_kinds, event_kinds, body_in, length_of, is_command, is_settings}

abbrev pub lengths : List ℕ
lengths =
    7 ∷ 12 ∷ 12 ∷ 0 ∷ 8 ∷ 4 ∷ 8 ∷ 255 ∷ 255 ∷ 255 ∷ 255 ∷ 255 ∷ 255 ∷ 255 ∷ 255 ∷ 255
    ∷ 3 ∷ 1 ∷ 8 ∷ 24 ∷ 4 ∷ 8 ∷ 24 ∷ 8 ∷ 0 ∷ []

abbrev length_ruled : ℕ → Bool
length_ruled k = eqb (get_or lengths k 0) (length_of k)

lengths-ruled : every 25 length_ruled ≡ true
unfolding records.length_of
lengths-ruled = refl

pub length_is : (k : ℕ) → k < 25 → get_or lengths k 0 ≡ length_of k
length_is k h = eqb-true (get_or lengths k 0) (length_of k) (every_at length_ruled 25 k lengths-ruled h)

-- ---- no kind is past the table

below : ℕ → List Kind → Bool
below n xs = all (λ x. ltb x.kind n) xs

past : (n k : ℕ) (xs : List Kind) → below n xs ≡ true → n ≤ k → body_in k xs ≡ 255
unfolding below
past n k [] e h = refl
past n k (x ∷ xs) e h =
    let p : x.kind < n = ltb-true x.kind n (and_1 (ltb x.kind n) (below n xs) e) in
    rw (ne_eqb k x.kind (λ q. omega arith)) (past n k xs (and_2 (ltb x.kind n) (below n xs) e) h)

pub length-past : (k : ℕ) → 25 ≤ k → length_of k ≡ 255
unfolding records.length_of below
length-past k h = past 25 k (command_kinds ++ event_kinds) refl h

-- ---- the kinds of commands

pub command_kinds_lem : (k : ℕ) → ltb k 7 ≡ is_command k
command_kinds_lem k =
    ⊎_elim
    (λ e. same_is (ltb k 7) (is_command k) (every_at (λ i. same (ltb i 7) (is_command i)) 7 k refl (ltb-true k 7 e)))
    (λ e. e ∙ sym (none-past (λ x. x.kind) 7 k command_kinds refl (ltb-false k 7 e)))
    (flag (ltb k 7))

pub settings_kinds_lem : (k : ℕ) → (eqb k 0 || eqb k 6) ≡ is_settings k
settings_kinds_lem k = rw (or-false (eqb k 6))

-- a command's body is at most twelve bytes
short : every 7 (λ k. leb (length_of k) 12) ≡ true
unfolding records.length_of
short = refl

pub body_short : (k : ℕ) → is_command k ≡ true → length_of k ≤ 12
body_short k c = leb-true (length_of k) 12 (every_at (λ k. leb (length_of k) 12) 7 k short (ltb-true k 7 (command_kinds_lem k ∙ c)))
