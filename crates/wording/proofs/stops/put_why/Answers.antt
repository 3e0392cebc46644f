-- By cases.
use Rattle.std.specs.Prelude.{◌≡◌, Option, Some}
use Rattle.words.proofs.General.{ap, ◌∙◌}
use Rattle.model.specs.declared.Stop.{Stop}
use Rattle.model.specs.declared.Stop.TheVariants.{NoRoom}
use Rattle.wording.specs.Stops.{why_words}
use Rattle.wording.proofs.stops.put_why.Goals as goal

pub returns-in-None : goal.returns-in-None
unfolding why_words
returns-in-None c = rw c.in-None.is c.put_all.ensures

no_room : {n : Option Stop} (x : Stop) → n ≡ Some x → x ≡ NoRoom → n ≡ Some NoRoom
no_room x e d = e ∙ ap Some d

pub returns-in-Some-NoRoom : goal.returns-in-Some-NoRoom
unfolding why_words
returns-in-Some-NoRoom c = rw (no_room c.in-Some-NoRoom.field-0 c.in-Some-NoRoom.is (rw c.in-Some-NoRoom.is at c.in-Some-NoRoom.field-0-is)) c.put_all-in-Some-NoRoom.ensures
