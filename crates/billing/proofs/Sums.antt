-- Every event's places are a bill's.
use Rattle.words.proofs.General.{◌+◌, ◌<◌, arith}
use Rattle.model.proofs.Terms.{answer_number, refusal_number}
use Rattle.model.specs.declared.Answer.{Answer}
use Rattle.model.specs.declared.Answer.TheVariants as answer
use Rattle.model.specs.declared.Refusal.{Refusal}
use Rattle.model.specs.declared.Refusal.TheVariants as refusal
use Rattle.model.specs.declared.Event.{Event}
use Rattle.model.specs.declared.Event.TheVariants as ev
use Rattle.billing.specs.Dues.{dues_of}

answer-within : (a : Answer) → answer_number a < 27
answer-within answer.Hit = omega arith
answer-within answer.HitReserved = omega arith
answer-within answer.Miss = omega arith
answer-within answer.SectorMiss = omega arith

refusal_within : (n : Refusal) → 5 + refusal_number n < 27
refusal_within refusal.SettingOutOfRange = omega arith
refusal_within refusal.SliceLength = omega arith
refusal_within refusal.NotSound = omega arith
refusal_within refusal.BadAccess = omega arith
refusal_within refusal.SetBusy = omega arith
refusal_within refusal.SetHeld = omega arith
refusal_within refusal.QueueFull = omega arith
refusal_within refusal.EntryFull = omega arith
refusal_within refusal.MissTableFull = omega arith
refusal_within refusal.NotSent = omega arith
refusal_within refusal.BadCycle = omega arith
refusal_within refusal.QueueEmpty = omega arith

-- both places of an event are a bill's
pub dues_within : (e : Event) → ((dues_of e).place < 27) × ((dues_of e).other < 27)
unfolding dues_of
dues_within (ev.Answered a line) = (omega arith, answer-within a)
dues_within (ev.Refused n) = (omega arith, refusal_within n)
dues_within (ev.ReadQueued a) = (omega arith, omega arith)
dues_within (ev.WriteBackQueued b m0 m1 m2 m3) = (omega arith, omega arith)
dues_within (ev.Released t) = (omega arith, omega arith)
dues_within (ev.ReadSent a) = (omega arith, omega arith)
dues_within (ev.WriteBackSent b m0 m1 m2 m3) = (omega arith, omega arith)
dues_within (ev.Filled a) = (omega arith, omega arith)
dues_within ev.Ticked = (omega arith, omega arith)
