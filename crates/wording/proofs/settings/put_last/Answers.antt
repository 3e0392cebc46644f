-- The rule, a tree over the ways, or sets times ways.
use Rattle.words.proofs.General.{sym, ◌∙◌, le-leb, lt-leb, eq-eqb, ne_eqb}
use Rattle.layout.proofs.OfRange.{power_16_is}
use Rattle.wording.specs.Settings.{last_words}
use Rattle.wording.proofs.settings.put_last.Goals.{else-rule-eq2-via-then-rule-eq2+else-not-power_to, else-rule-eq2-via-else-rule-eq2}
use Rattle.wording.proofs.settings.put_last.Goals as goal

pub returns-then-rule-gt2 : goal.returns-then-rule-gt2
unfolding last_words
returns-then-rule-gt2 c = rw (lt-leb _ 2 c.if-rule-gt2.true) c.put_all.ensures

pub returns-then-not-power_to : goal.returns-then-not-power_to
unfolding last_words
returns-then-not-power_to c =
    rw (le-leb _ 2 c.if-rule-gt2.false, eq-eqb _ 2 c.if-rule-eq2.true, sym (c.power_to.ensures ∙ power_16_is _) ∙ c.if-not-power_to.true) c.put_all-then-not-power_to.ensures

pub returns : goal.returns
unfolding last_words
returns c =
    elim c.else-rule-eq2.branch [
      | else-rule-eq2-via-then-rule-eq2+else-not-power_to w ↦ rw (le-leb _ 2 c.if-rule-gt2.false, eq-eqb _ 2 w.if-rule-eq2.true, sym (w.power_to.ensures ∙ power_16_is _) ∙ w.if-not-power_to.false) c.put_all-2.ensures
      | else-rule-eq2-via-else-rule-eq2 w ↦ rw (le-leb _ 2 c.if-rule-gt2.false, ne_eqb _ 2 w.if-rule-eq2.false) c.put_all-2.ensures
    ]
