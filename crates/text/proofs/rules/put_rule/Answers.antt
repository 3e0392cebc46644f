-- A byte with a name, and one without.
use Rattle.words.proofs.General.{sym, ap, refl, ◌∙◌, ltb-true, ℕ, List}
use Rattle.std.proofs.Common.{Bor}
use Rattle.text.specs.Rules.{rule_name}
use Rattle.text.proofs.RuleNames.{name_at}
use Rattle.text.proofs.rules.put_rule.Goals as goal

pub returns-in-Some : goal.returns-in-Some
unfolding rule_name
returns-in-Some c =
    let h = c.in-Some.ensures.lookup in
    let e = ap (λ (r : Bor (List ℕ)). r.now) h.1 ∙ name_at _ _ _ _ refl _ (ltb-true _ _ (sym h.0)) in
    rw (sym h.0, ← e, ← c.as_bytes.ensures.value) c.put_text.ensures

pub returns-in-None : goal.returns-in-None
unfolding rule_name
returns-in-None c = let h = c.in-None.ensures.lookup in rw (sym h.0) c.put_decimal.ensures
