-- The queue entries and the miss entries of the tables that slices hold.
use Rattle.std.specs.Prelude.{◌≡◌, length}
use Rattle.model.specs.Tables.{Tables}
use Rattle.model.specs.Lent.{Lent}
use Rattle.model.specs.Inner.{Encodes}
use Rattle.model.specs.declared.Settings.{Settings}
use Rattle.wait.specs.declared.waiting.Counts.{Counts}

pub record CountsOfTables (S : Settings) (L : Lent) (r : Counts) : Type 0 where
  pub queued : (t : Tables) → Encodes S L t → r.queued ≡ length t.queue
  pub missed : (t : Tables) → Encodes S L t → r.missed ≡ length t.misses
