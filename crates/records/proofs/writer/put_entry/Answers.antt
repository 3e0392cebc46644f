-- By the kind, which is matched: there is room for its event's bytes, and they are what is stored.
use Rattle.words.proofs.General.{◌≡◌, ap}
use Rattle.model.proofs.Terms.{queued_as, queued_event, bytes_of, event_bytes}
use Rattle.model.specs.RecordsOf as records
use Rattle.model.specs.declared.Queued.{Queued}
use Rattle.model.specs.declared.QueueKind.{QueueKind}
use Rattle.records.proofs.Encoding.{case-room, case-laid}
use Rattle.records.proofs.writer.put_entry.Goals as goal

-- the entry's event by its kind
is : (x : Queued) {k : QueueKind} → x.kind ≡ k → queued_event x ≡ queued_as k x.address x.masks
is x e = ap (λ (k : QueueKind). queued_as k x.address x.masks) e

pub put_numbered-requires : goal.put_numbered-requires
unfolding records.event_bytes bytes_of
put_numbered-requires c = case-room event_bytes _ c.requires (is c.args.x c.in-Read.is)

pub put_back-requires : goal.put_back-requires
unfolding records.event_bytes bytes_of
put_back-requires c = case-room event_bytes _ c.requires (is c.args.x c.in-WriteBack.is)

pub returns-in-Read : goal.returns-in-Read
unfolding records.event_bytes bytes_of
returns-in-Read c = search (case-laid, c.put_numbered.ensures, c.in-Read.is)

pub returns-in-WriteBack : goal.returns-in-WriteBack
unfolding records.event_bytes bytes_of
returns-in-WriteBack c = search (case-laid, c.put_back.ensures, c.in-WriteBack.is)
