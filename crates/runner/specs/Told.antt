-- The events that a run tells, record by record, where `run` and `resume` have the bytes that it writes.
use Rattle.std.specs.Prelude.{ℕ, zero, suc, ◌-◌, List, [], ◌∷◌, ◌++◌, length}
use Rattle.words.specs.Words.{pick}
use Rattle.model.specs.Tables.{Tables, start, after, events_of}
use Rattle.model.specs.Lent.{Lent, tables_of}
use Rattle.model.specs.Records.{length_of, log_bytes}
use Rattle.model.specs.Runner.{settings_of, first_stop, later_stop, kept_stop, goes_on, step_at}
use Rattle.model.specs.declared.Settings.{Settings}
use Rattle.model.specs.declared.Event.{Event}

-- as `run_from`
unfoldable pub told_from : Settings → ℕ → ℕ → List ℕ → Tables → List Event
told_from S n room [] t = []
told_from S (suc n) room (b ∷ bs) t = told_from S n room bs t
told_from S zero room (k ∷ bs) t =
    pick (goes_on (later_stop room k bs))
    (events_of (step_at S k bs t)
    ++ told_from S (length_of k) (room - length (log_bytes (events_of (step_at S k bs t)))) bs (after t (step_at S k bs t)))
    []

-- as run
unfoldable pub run_told : ℕ → List ℕ → Lent → List Event
run_told room [] L = []
run_told room (k ∷ bs) L = pick (goes_on (first_stop L k bs)) (told_from (settings_of k bs) (length_of k) room bs (start (settings_of k bs))) []

-- as resume
unfoldable pub resume_told : Settings → ℕ → List ℕ → Lent → List Event
resume_told S room s L = pick (goes_on (kept_stop S L)) (told_from S 0 room s (tables_of S L)) []
