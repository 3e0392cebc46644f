-- Document 01's whole run, down to its 45 bytes and the tables that it leaves: one statement, by computation.
use Rattle.std.specs.Prelude.{None}
use Rattle.words.proofs.General.{◌≡◌, refl, true, length, pad_to, packed}
use Rattle.model.proofs.Terms.{in_range, Lent, lengths_fit, encode, probe, rule_of, access, proceed, accept, send, fill, fill_line, bytes_of, number_at, run, base, stream}
use Rattle.model.proofs.Terms.{written, left_by_run}
use Rattle.model.specs.RecordsOf as records
use Rattle.model.specs.RunnerOf as runner

-- "Written, 45 bytes"
pub written_45 : length written ≡ 45
written_45 = refl

-- on lent tables of the settings' lengths, whatever they hold, with room for 256 bytes of events
pub whole_run : (L : Lent) → lengths_fit base L ≡ true
    → run 256 stream L ≡ record { stop = None; consumed = 44; events = written; tables = encode base left_by_run }
unfolding pad_to packed in_range encode rule_of probe access proceed accept send fill fill_line records.length_of bytes_of number_at records.event_bytes records.log_bytes records.command_of runner.first_stop runner.later_stop runner.step_at runner.run_from runner.run
whole_run L h = rw h
