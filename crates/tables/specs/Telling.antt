-- What a call tells where it has one event and no more.
use Rattle.std.specs.Prelude.{replicate}
use Rattle.model.specs.Tables.{idle}
use Rattle.model.specs.declared.Event.{Event}
use Rattle.model.specs.declared.Reply.{Reply}

abbrev pub telling : Event → Reply
telling e = record {
  first = e;
  queued = replicate 2 idle;
  queues = 0;
  count = 0;
  tickets = replicate 8 0;
}
