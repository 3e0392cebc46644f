-- The runner at the current format: what RunnerOf defines over any, under the same names.
use Rattle.std.specs.Prelude.{ℕ, List, Option}
use Rattle.model.specs.Tables.{Tables, Outcome}
use Rattle.model.specs.Lent.{Lent}
use Rattle.model.specs.Format.{current}
use Rattle.model.specs.Format as format
use Rattle.model.specs.RunnerOf as runner
use Rattle.model.specs.declared.Settings.{Settings}
use Rattle.model.specs.declared.Stop.{Stop}
unfoldable pub use Rattle.model.specs.RunnerOf.{lent_stop, settings_stop, goes_on, step_of, command_mask, step_read, halt, bytes_then, lent_result, kept_stop}
pub use Rattle.model.specs.RunnerOf.{RunResult, Runs}

abbrev pub event_room : ℕ
event_room = format.event_room current

abbrev pub settings_of : ℕ → List ℕ → Settings
settings_of = runner.settings_of current

abbrev pub record_stop : ℕ → List ℕ → Option Stop → Option Stop → Option Stop
record_stop = runner.record_stop current

abbrev pub room_stop : ℕ → Option Stop
room_stop = runner.room_stop current

abbrev pub first_stop : Lent → ℕ → List ℕ → Option Stop
first_stop = runner.first_stop current

abbrev pub later_stop : ℕ → ℕ → List ℕ → Option Stop
later_stop = runner.later_stop current

abbrev pub step_at : Settings → ℕ → List ℕ → Tables → Outcome Tables
step_at = runner.step_at current

abbrev pub run_from : Settings → ℕ → ℕ → List ℕ → Tables → RunResult Tables
run_from = runner.run_from current

abbrev pub run : ℕ → List ℕ → Lent → RunResult Lent
run = runner.run current

abbrev pub resume : Settings → ℕ → List ℕ → Lent → RunResult Lent
resume = runner.resume current
