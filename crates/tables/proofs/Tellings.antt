-- What a value tells that has one event and no more: a refusal, or an outcome with that event.
use Rattle.words.proofs.General.{◌≡◌, refl, List, [], ◌∷◌, pad_to}
use Rattle.model.proofs.Terms.{Tables, Outcome, refused, done, Lent, encode, encoded, events_told, tidied, Leaves}
use Rattle.model.specs.declared.Settings.{Settings}
use Rattle.model.specs.declared.Refusal.{Refusal}
use Rattle.model.specs.declared.Reply.{Reply}
use Rattle.model.specs.declared.Event.{Event}
use Rattle.model.specs.declared.Event.TheVariants as event
use Rattle.tables.specs.Telling.{telling}

pub telling-tells : (e : Event) → events_told (telling e) ≡ e ∷ []
unfolding events_told
telling-tells e = refl

pub telling_tidy : (e : Event) → tidied (telling e) ≡ telling e
unfolding tidied pad_to
telling_tidy e = refl

pub refusal_leaves : (n : Refusal) (L : Lent) → Leaves (refused n) L (telling (event.Refused n)) L
refusal_leaves n L = record { tells = telling-tells (event.Refused n); tidy = telling_tidy (event.Refused n); left = refl }

-- the same of a step on tables that comes to done
pub done_leaves : (S : Settings) {o : Outcome Tables} {es : List Event} {t : Tables} {L : Lent} {r : Reply} {M : Lent}
    → o ≡ done es t → events_told r ≡ es → tidied r ≡ r → M ≡ encode S t → Leaves (encoded S o) L r M
done_leaves S {o} {es} {t} {L} {r} {M} e f g h = rw e record { tells = f; tidy = g; left = h }
