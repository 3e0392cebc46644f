-- Where no number stands, and where one does.
use Rattle.words.proofs.General.{sym, ap, ◌∙◌, ◌≡◌, ◌&&◌, ℕ, leb, eqb, le-leb, lt-leb}
use Rattle.text.specs.Words.{word_end}
use Rattle.assembly.proofs.Fields.{number_none, number_some}
use Rattle.assembly.proofs.number_next.Goals.{then-number-most, else-number-most}
use Rattle.assembly.proofs.number_next.Goals as goal

pub returns-in_err-number-clause-value : goal.returns-in_err-number-clause-value
returns-in_err-number-clause-value c =
    c.from_residual.ensures ∙ number_none _ _ _ c.skip_spaces.ensures c.parse_number.ensures (sym c.ok.ensures.value ∙ c.in_err-number.was)

pub returns-clause-value : goal.returns-clause-value
returns-clause-value c =
    let n = c.in_ok-number.number in
    let f : c.if-number-most.then_some ≡ (leb n.value c.args.most && eqb (word_end c.args.line.now n.next) n.next) =
    elim c.if-number-most.branch [
      | then-number-most w ↦ w.then_some-is ∙ rw (le-leb _ _ w.if-number-most.true) (ap (λ (e : ℕ). eqb e n.next) c.word_end.ensures)
      | else-number-most w ↦ w.then_some-is ∙ rw (lt-leb _ _ w.if-number-most.false)
    ] in
    c.then_some.ensures ∙ number_some _ _ _ c.skip_spaces.ensures c.parse_number.ensures (sym c.ok.ensures.value ∙ c.in_ok-number.was) f
