use Rattle.words.proofs.General.{◌≡◌, refl, ◌∙◌, Bool, true, false, one}
use mir.Val.{bool_byte}
use Rattle.layout.proofs.Stores.{one-put}
use Rattle.layout.proofs.dirty.recount.Goals as goal

byte_one : (b : Bool) → bool_byte b ≡ one b
byte_one true = refl
byte_one false = refl

pub returns : goal.returns
returns c = rw (c.from.ensures ∙ byte_one c.args.is, c.from-2.ensures ∙ byte_one c.args.was) (one-put _ _ _ c.requires.0)
