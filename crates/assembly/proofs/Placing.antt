-- A command put into a stream, by the count that encoding it gives.
use Rattle.words.proofs.General.{ℕ, ◌+◌, ◌≤◌, ◌<◌, arith, ◌≡◌, refl, ⊎_elim, List, length, leb-true, room, flag}
use Rattle.model.specs.RecordsOf as records
use Rattle.model.proofs.Terms.{command_bytes}
use Rattle.model.specs.declared.Command.{Command}
use Rattle.records.specs.Stores.{stored_count, Stored}
use Rattle.std.proofs.Common.{None, Some, Result, Ok, Err}
use Rattle.assembly.specs.declared.Refused.{Refused}
use Rattle.assembly.specs.declared.Refused.TheVariants.{NoRoom, Bad}
use Rattle.assembly.specs.declared.Expected.{Expected}
use Rattle.assembly.specs.Output.{placed, answer_to, left_by, Assembles}

-- a command is a byte or more
command_bytes_lem : (c : Command) → 0 < length (command_bytes c)
unfolding records.command_bytes
command_bytes_lem c = omega arith

module _ (c : Command) (l : List ℕ) (at : ℕ) {n : ℕ} {m : List ℕ} (w : Stored l at (command_bytes c) n m) where
  pub placed-not : n ≡ 0 → Assembles (Ok (Some c)) l at (Err NoRoom) m
  unfolding answer_to left_by stored_count
  placed-not e = record {
    answer = ⊎_elim (λ q. let z = rw q at w.count in absurd (omega (arith, command_bytes_lem c))) (λ q. rw q) (flag (room l at (length (command_bytes c))));
    left = w.slice;
  }

  there : (n ≡ 0 → ⊥) → (n ≡ length (command_bytes c)) × (at + length (command_bytes c) ≤ length l) × (◌≡◌ {A = Result ℕ Refused} (Ok (at + n)) (placed (room l at (length (command_bytes c))) (at + length (command_bytes c))))
  unfolding stored_count
  there e =
      ⊎_elim
      (λ q. let z = rw q at w.count in (z, leb-true (at + length (command_bytes c)) (length l) q, rw (q, z)))
      (λ q. absurd (e (rw q at w.count)))
      (flag (room l at (length (command_bytes c))))

  pub placed_there : (n ≡ 0 → ⊥) → Assembles (Ok (Some c)) l at (Ok (at + n)) m
  unfolding answer_to left_by
  placed_there e = record { answer = (there e).2; left = w.slice }

  pub placed-within : (n ≡ 0 → ⊥) → at + n ≤ length l
  placed-within e = let t = there e in omega arith

-- ---- a line without a command

pub assembles_empty : (l : List ℕ) (at : ℕ) → Assembles (Ok None) l at (Ok at) l
unfolding answer_to left_by
assembles_empty l at = record { answer = refl; left = refl }

pub assembles_bad : (l : List ℕ) (at : ℕ) (e : Expected) → Assembles (Err e) l at (Err (Bad e)) l
unfolding answer_to left_by
assembles_bad l at e = record { answer = refl; left = refl }
