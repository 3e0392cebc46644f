-- Whether an event is a refusal.
use Rattle.std.specs.Prelude.{Result, Ok, Err}
use Rattle.model.specs.declared.Refusal.{Refusal}
use Rattle.model.specs.declared.Event.{Event}
use Rattle.model.specs.declared.Event.TheVariants as event

abbrev pub offer_verdict : Event → Result (Unit {0}) Refusal
offer_verdict (event.Answered a l) = Ok tt
offer_verdict (event.Refused n) = Err n
offer_verdict (event.ReadQueued a) = Ok tt
offer_verdict (event.WriteBackQueued b m0 m1 m2 m3) = Ok tt
offer_verdict (event.Released k) = Ok tt
offer_verdict (event.ReadSent a) = Ok tt
offer_verdict (event.WriteBackSent b m0 m1 m2 m3) = Ok tt
offer_verdict (event.Filled a) = Ok tt
offer_verdict event.Ticked = Ok tt
