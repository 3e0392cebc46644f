-- Six or seven numbers by their places, or zeros for another length.
use Rattle.words.proofs.General.{length}
use Rattle.lending.specs.Lending.{settings_from}
use Rattle.lending.proofs.Lending.{may_lend_lem}
use Rattle.lending.proofs.settings_from.Goals as goal

pub returns-then-settings : goal.returns-then-settings
unfolding settings_from
returns-then-settings c = rw (may_lend_lem (length c.args.settings.now) c.if-settings.true)

pub returns : goal.returns
unfolding settings_from
returns c =
    rw (may_lend_lem (length c.args.settings.now) c.if-settings.false, c.number.ensures, c.number-2.ensures, c.number-3.ensures, c.number-4.ensures, c.number-5.ensures, c.number-6.ensures, c.number-7.ensures)
