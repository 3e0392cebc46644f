-- What a part that goes on stops with where refusal 1, 2 or 3 applies before it.
use Rattle.std.specs.Prelude.{eqb}
use Rattle.words.specs.Words.{pick}
use Rattle.model.specs.Numbers.{refusal_number}
use Rattle.model.specs.declared.Refusal.{Refusal}
use Rattle.model.specs.declared.Stop.{Stop}
use Rattle.model.specs.declared.Stop.TheVariants.{SettingOutOfRange, SliceLength, NotSound}

abbrev pub stop_of : Refusal → Stop
stop_of n = pick (eqb (refusal_number n) 1) SettingOutOfRange (pick (eqb (refusal_number n) 2) SliceLength NotSound)
