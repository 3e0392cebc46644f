-- The queue entries that events tell: those queued (0x12 and 0x13) and those sent (0x15 and 0x16).
use Rattle.std.specs.Prelude.{List, [], ◌∷◌, ◌++◌}
use Rattle.model.specs.Tables.{reading, writing}
use Rattle.model.specs.declared.Queued.{Queued}
use Rattle.model.specs.declared.Event.{Event}
use Rattle.model.specs.declared.Event.TheVariants as ev

abbrev pub queued_from : Event → List Queued
queued_from (ev.ReadQueued a) = reading a ∷ []
queued_from (ev.WriteBackQueued b m0 m1 m2 m3) = writing b (m0 ∷ m1 ∷ m2 ∷ m3 ∷ []) ∷ []
queued_from (ev.Answered a n) = []
queued_from (ev.Refused n) = []
queued_from (ev.Released k) = []
queued_from (ev.ReadSent a) = []
queued_from (ev.WriteBackSent b m0 m1 m2 m3) = []
queued_from (ev.Filled a) = []
queued_from ev.Ticked = []

abbrev pub sent_from : Event → List Queued
sent_from (ev.ReadSent a) = reading a ∷ []
sent_from (ev.WriteBackSent b m0 m1 m2 m3) = writing b (m0 ∷ m1 ∷ m2 ∷ m3 ∷ []) ∷ []
sent_from (ev.Answered a n) = []
sent_from (ev.Refused n) = []
sent_from (ev.ReadQueued a) = []
sent_from (ev.WriteBackQueued b m0 m1 m2 m3) = []
sent_from (ev.Released k) = []
sent_from (ev.Filled a) = []
sent_from ev.Ticked = []

-- of all the events, in order
unfoldable pub entries_by : (Event → List Queued) → List Event → List Queued
entries_by f [] = []
entries_by f (e ∷ es) = f e ++ entries_by f es

abbrev pub queued_by : List Event → List Queued
queued_by = entries_by queued_from

abbrev pub sent_by : List Event → List Queued
sent_by = entries_by sent_from
