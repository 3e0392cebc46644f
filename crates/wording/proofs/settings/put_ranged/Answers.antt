-- Those passed are in range.
use Rattle.words.proofs.General.{sym, ◌∙◌, [], ◌∷◌}
use Rattle.wording.proofs.Pieces.{puts_as, puts_from}
use Rattle.wording.proofs.Ranges.{ranged-on, ranged-here, ranged_none}
use Rattle.wording.proofs.settings.put_ranged.Goals as goal

pub returns-then-not-is_within : goal.returns-then-not-is_within
returns-then-not-is_within c =
    let v = c.loop-x.invariant in
    puts_from v.0 (puts_as c.put.ensures (sym (v.1 ∙ ranged-here (c.read.result ∷ c.read-2.result ∷ c.read-3.result ∷ c.read-4.result ∷ c.read-5.result ∷ []) _ _ _ c.loop-x-test.true c.is_within.ensures c.if-not-is_within.true)))

pub loop-x-preserved : goal.loop-x-preserved
loop-x-preserved c = let v = c.loop-x.invariant in (v.0, v.1 ∙ ranged-on (c.read.result ∷ c.read-2.result ∷ c.read-3.result ∷ c.read-4.result ∷ c.read-5.result ∷ []) _ _ _ c.loop-x-test.true c.is_within.ensures c.if-not-is_within.false)

pub returns : goal.returns
returns c =
    let v = c.loop-x.invariant in
    puts_from v.0 (rw (v.1 ∙ ranged_none (c.read.result ∷ c.read-2.result ∷ c.read-3.result ∷ c.read-4.result ∷ c.read-5.result ∷ []) _ _ c.loop-x-test.false, ← c.read-6.ensures, ← c.read-7.ensures) c.put_last.ensures)
