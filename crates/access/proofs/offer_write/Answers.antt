use Rattle.words.proofs.General.{ap, ◌∙◌, one}
use Rattle.access.proofs.PlanTests.{write_needs, full_planned, write-planned}
use Rattle.access.proofs.Offering.{may_act, offered_acted, offered-refused}
use Rattle.access.proofs.offer_write.Goals as goal

pub returns-then-g-o : goal.returns-then-g-o
returns-then-g-o c =
    offered-refused _ (full_planned _ c.args.g.laid c.requires.placed.queued (write_needs c.args.o.access c.args.o.decision c.requires.writes (c.from.ensures ∙ ap one c.is_some.ensures)) c.if-g-o.true)

pub act_write-requires-clause-acts : goal.act_write-requires-clause-acts
act_write-requires-clause-acts c =
    let planned = write-planned _ c.args.g.laid c.requires.placed.queued (write_needs c.args.o.access c.args.o.decision c.requires.writes (c.from.ensures ∙ ap one c.is_some.ensures)) c.if-g-o.false c.requires.writes in
    may_act c.args.g.laid c.requires.placed.queued planned c.requires.placed.meets

pub returns : goal.returns
returns c =
    let planned = write-planned _ c.args.g.laid c.requires.placed.queued (write_needs c.args.o.access c.args.o.decision c.requires.writes (c.from.ensures ∙ ap one c.is_some.ensures)) c.if-g-o.false c.requires.writes in
    offered_acted c.args.g.laid c.requires.placed.queued planned c.act_write.ensures
