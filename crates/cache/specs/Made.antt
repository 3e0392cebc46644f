-- What the calls come to: which call a value is; the verdict and the slices where tables are made fresh.
use Rattle.std.specs.Prelude.{◌≡◌, Result}
use Rattle.model.specs.declared.Refusal.{Refusal}
use Rattle.model.specs.Tables.{Outcome, after}
use Rattle.model.specs.Lent.{Lent}
use Rattle.model.specs.Calls.{verdict_of}
use Rattle.model.specs.History as history
use Rattle.cache.specs.declared.Call.{Call}
use Rattle.cache.specs.declared.Call.TheVariants.{Offer, Send, Fill, Tick}

-- a call as the model names it
abbrev pub model_call : Call → history.Call
model_call (Offer x) = history.offer x
model_call Send = history.sending
model_call (Fill a) = history.filling a
model_call (Tick c) = history.ticking c

-- the verdict r and the slices M after it are those of the outcome o of a call on L
pub record LeavesVerdict (o : Outcome Lent) (L : Lent) (r : Result (Unit {0}) Refusal) (M : Lent) : Type 0 where
  pub says : r ≡ verdict_of o
  pub left : M ≡ after L o
