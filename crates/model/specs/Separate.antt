-- The run by the separate public calls: the call of each record, with its own checks 1, 2 and 3, on the slices that the call before it left.
use Rattle.std.specs.Prelude.{ℕ, zero, suc, ◌+◌, ◌-◌, List, [], ◌∷◌, length, take, Option, Some, None}
use Rattle.words.specs.Words.{pick}
use Rattle.model.specs.Tables.{Outcome, refused, after, events_of}
use Rattle.model.specs.Lent.{Lent}
use Rattle.model.specs.Calls.{access_call, send_call, fill_call, tick_call, fresh_call}
use Rattle.model.specs.Records.{length_of, command_of, log_bytes}
use Rattle.model.specs.Runner.{settings_of, first_stop, later_stop, kept_stop, goes_on, RunResult, halt, bytes_then}
use Rattle.model.specs.declared.Settings.{Settings}
use Rattle.model.specs.declared.Access.TheVariants.{Read, Write}
use Rattle.model.specs.declared.Refusal.TheVariants as refusal
use Rattle.model.specs.declared.Command.{Command}
use Rattle.model.specs.declared.Command.TheVariants as cmd
use Rattle.model.specs.declared.Stop.TheVariants as stop

-- the call of a command; later_stop lets no settings through
abbrev pub call_of : Settings → Command → Lent → Outcome Lent
call_of S (cmd.Read a k) L = access_call S (Read a 0 k) L
call_of S (cmd.Write a m) L = access_call S (Write a m 0) L
call_of S cmd.Send L = send_call S L
call_of S (cmd.Fill a) L = fill_call S a L
call_of S (cmd.Tick c) L = tick_call S c L
call_of S (cmd.Settings g) L = refused refusal.SettingOutOfRange

abbrev pub call_read : Settings → Option Command → Lent → Outcome Lent
call_read S (Some c) L = call_of S c L
call_read S None L = refused refusal.SettingOutOfRange

unfoldable pub call_at : Settings → ℕ → List ℕ → Lent → Outcome Lent
call_at S k rest L = call_read S (command_of k (take (length_of k) rest)) L

-- as `run_from`, on slices
unfoldable pub calls_from : Settings → ℕ → ℕ → List ℕ → Lent → RunResult Lent
calls_from S n room [] L = halt None L
calls_from S (suc n) room (b ∷ bs) L = calls_from S n room bs L
calls_from S zero room (k ∷ bs) L =
    pick (goes_on (later_stop room k bs))
    (bytes_then (1 + length_of k) (log_bytes (events_of (call_at S k bs L)))
    (calls_from S (length_of k) (room - length (log_bytes (events_of (call_at S k bs L)))) bs (after L (call_at S k bs L))))
    (halt (later_stop room k bs) L)

-- as run: the settings record is the call that makes the tables fresh
unfoldable pub run_by_calls : ℕ → List ℕ → Lent → RunResult Lent
run_by_calls room [] L = halt None L
run_by_calls room (k ∷ bs) L =
    pick (goes_on (first_stop L k bs))
    (bytes_then (1 + length_of k) [] (calls_from (settings_of k bs) (length_of k) room bs (after L (fresh_call (settings_of k bs) L))))
    (halt (first_stop L k bs) L)

-- as resume
unfoldable pub resume_by_calls : Settings → ℕ → List ℕ → Lent → RunResult Lent
resume_by_calls S room s L = pick (goes_on (kept_stop S L)) (calls_from S 0 room s L) (halt (kept_stop S L) L)
