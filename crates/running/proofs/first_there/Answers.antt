-- No byte; otherwise whether the first record is cut short.
use Rattle.std.specs.Prelude.{Option, Some, None}
use Rattle.words.proofs.General.{◌≡◌, refl, ap, not, sym, ◌∙◌, eqb, eqb-true, eqb-false}
use Rattle.std.specs.Option.{option_eq}
use denote.Enum.Bare.{sameb}
use Rattle.model.specs.contracts.Stop.{the_type}
use Rattle.model.proofs.Terms.{stop_number}
use Rattle.model.specs.declared.Stop.{Stop}
use Rattle.model.specs.declared.Stop.TheVariants.{SettingOutOfRange, SliceLength, NotSound, OutOfPlace, UnknownKind, CutShort, NoRoom}
use Rattle.running.proofs.Parts.{there_none, there_some}
use Rattle.running.proofs.first_there.Goals as goal

cut_number : (n : Option Stop) → option_eq (sameb the_type) n (Some CutShort) ≡ eqb (stop_number n) 15
cut_number None = refl
cut_number (Some SettingOutOfRange) = refl
cut_number (Some SliceLength) = refl
cut_number (Some NotSound) = refl
cut_number (Some OutOfPlace) = refl
cut_number (Some UnknownKind) = refl
cut_number (Some CutShort) = refl
cut_number (Some NoRoom) = refl

pub returns-then-is_empty : goal.returns-then-is_empty
returns-then-is_empty c = there_none c.args.stream.now (eqb-true _ 0 (sym c.is_empty.ensures ∙ c.if-is_empty.true))

pub returns : goal.returns
returns c =
    c.ne.ensures ∙ ap not (cut_number c.head_stop.result)
    ∙ there_some c.args.stream.now (eqb-false _ 0 (sym c.is_empty.ensures ∙ c.if-is_empty.false)) c.read_at.ensures c.head_stop.ensures refl
