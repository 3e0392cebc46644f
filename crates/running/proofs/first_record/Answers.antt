-- No byte; a record that stops; one that holds settings.
use Rattle.words.proofs.General.{sym, ap, not, ◌∙◌, eqb-true, eqb-false}
use Rattle.running.proofs.First.{first-none, first_stopped, first_holds}
use Rattle.running.proofs.first_record.Goals as goal

pub returns-then-is_empty : goal.returns-then-is_empty
returns-then-is_empty c = first-none c.args.stream.now (eqb-true _ 0 (sym c.is_empty.ensures ∙ c.if-is_empty.true))

pub returns-then-is_some : goal.returns-then-is_some
returns-then-is_some c =
    first_stopped c.args.stream.now (eqb-false _ 0 (sym c.is_empty.ensures ∙ c.if-is_empty.false))
    (rw (c.new-reader.ensures.0, c.new-reader.ensures.1) at c.next-first.ensures.found) c.record_stop-stop.ensures (ap not (sym c.is_some.ensures ∙ c.if-is_some.true))

pub returns : goal.returns
returns c =
    first_holds c.args.stream.now (eqb-false _ 0 (sym c.is_empty.ensures ∙ c.if-is_empty.false))
    (rw (c.new-reader.ensures.0, c.new-reader.ensures.1) at c.next-first.ensures.found) c.record_stop-stop.ensures (ap not (sym c.is_some.ensures ∙ c.if-is_some.false))
    (rw (c.new-reader.ensures.0, c.new-reader.ensures.1) at c.next-first.ensures.body).bytes c.settings_in.ensures
    (rw (c.new-reader.ensures.0, c.new-reader.ensures.1) at c.next-first.ensures.stands)
