-- What a body says, by the tests that the code makes.
use Rattle.std.specs.Prelude.{Some, None}
use Rattle.words.proofs.General.{ℕ, ◌-◌, ◌≤◌, arith, ◌≡◌, ap, List, length, get_or, le-leb, eq-eqb, get_or-inside}
use Rattle.model.specs.RecordsOf as records
use Rattle.model.proofs.Terms.{length_of, refusals, refused_by, command_in, command_of}
use Rattle.model.specs.declared.Refusal.{Refusal}
use Rattle.model.specs.declared.Event.TheVariants.{Refused}

-- ---- the refusal of a number

pub refusal_named : (n : ℕ) (d : Refusal) → 1 ≤ n → n ≤ 12 → Some (Refused (get_or refusals (n - 1) d)) ≡ refused_by n
refusal_named n d h k = rw (le-leb 1 n h, le-leb n 12 k) (ap (λ (r : Refusal). Some (Refused r)) (get_or-inside refusals (n - 1) d _ (omega arith)))

-- ---- a body of its kind's length

pub command_sized : (k : ℕ) (b : List ℕ) (j : ℕ) → k ≡ j → length b ≡ length_of k → command_of k b ≡ command_in j b
unfolding records.command_of
command_sized k b j p q = rw (eq-eqb (length b) (length_of k) q, p)
