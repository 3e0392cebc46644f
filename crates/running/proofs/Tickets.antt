-- The ticket of a write says nothing: with any the access is the same step.
use Rattle.std.specs.Prelude.{Option, Some, None}
use Rattle.words.proofs.General.{ℕ, ◌≡◌, refl, List}
use Rattle.model.proofs.Terms.{block_of, Line, Tables, holds, Lent, Rule, Place, no, at, first, ways_of, rule_of, meet, probe, accept, proceed, access, Does}
use Rattle.model.specs.declared.Settings.{Settings}
use Rattle.model.specs.declared.Access.TheVariants.{Write}
use Rattle.model.specs.declared.Reply.{Reply}

meet_as : (R : Rule) (S : Settings) (d : ℕ) (ways : List Line) (a m i j : ℕ) (f : Option ℕ) → meet R S d ways (Write a m i) f ≡ meet R S d ways (Write a m j) f
meet_as R S d ways a m i j None = refl
meet_as R S d ways a m i j (Some w) = refl

proceed_as : (S : Settings) (a m i j : ℕ) (t : Tables) (p : Place) → proceed S (Write a m i) t p ≡ proceed S (Write a m j) t p
unfolding proceed accept
proceed_as S a m i j t (no n) = refl
proceed_as S a m i j t (at p) = refl

probe_as : (R : Rule) (S : Settings) (d : ℕ) (ways : List Line) (a m i j : ℕ) → probe R S d ways (Write a m i) ≡ probe R S d ways (Write a m j)
unfolding probe
probe_as R S d ways a m i j = meet_as R S d ways a m i j (first (holds (block_of a)) ways)

pub ticket_idle : (S : Settings) (a m i j : ℕ) (t : Tables) → access S (Write a m i) t ≡ access S (Write a m j) t
unfolding access
ticket_idle S a m i j t =
    rw (probe_as (rule_of S t a) S t.dirty_count (ways_of S t.lines a) a m i j, proceed_as S a m i j t)

pub write_as : (S : Settings) (a m i j : ℕ) {L : Lent} {r : Reply} {M : Lent} → Does S (access S (Write a m i)) L r M → Does S (access S (Write a m j)) L r M
write_as S a m i j d = record { on = λ t e. rw (ticket_idle S a m j i t) (d.on t e) }
