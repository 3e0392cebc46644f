-- The events of a call's value as bytes: how long they are, that their numbers fit, and their parts one after the other.
use Rattle.words.proofs.General.{ℕ, zero, suc, ◌+◌, ◌*◌, ◌^◌, min, ◌≤◌, ◌<◌, arith, ◌≡◌, refl, Bool, List, [], ◌∷◌, ◌++◌, map, length, take, get_or, length-append}
use Rattle.model.proofs.Terms.{queued_event, events_told, event_bytes, log_bytes, Shaped}
use Rattle.model.specs.RecordsOf as records
use Rattle.model.specs.declared.Event.{Event}
use Rattle.model.specs.declared.Event.TheVariants.{Released}
use Rattle.model.specs.declared.Queued.{Queued}
use Rattle.model.specs.declared.Reply.{Reply}
use Rattle.records.specs.Fitting.{Fitting, AllFitting}
use Rattle.records.specs.Stores.{Laid}
use Rattle.records.specs.Parts.{queued_told, tickets_told}
use Rattle.records.proofs.Stores.{laid_then, laid_as, laid_sized}
use Rattle.records.proofs.Encoding.{case-laid}
use Rattle.records.proofs.Log.{log_one, released-length}
use Rattle.model.proofs.Logs.{log_append}

-- ---- the numbers fit

pub fitting_append : (es fs : List Event) → AllFitting es → AllFitting fs → AllFitting (es ++ fs)
fitting_append [] fs p q = q
fitting_append (e ∷ es) fs p q = (p.0, fitting_append es fs p.1 q)

tickets_fit : (ts : List ℕ) → ((i : ℕ) → get_or ts i 0 < 2 ^ 32) → (n : ℕ) → AllFitting (tickets_told n ts)
tickets_fit ts f zero = tt
tickets_fit [] f (suc n) = tt
tickets_fit (t ∷ ts) f (suc n) = (f 0, tickets_fit ts (λ i. f (suc i)) n)

-- ---- the parts, and how long they are

-- as many as there are
pub take_least : {A : Type 0} (n : ℕ) (xs : List A) → take (min n (length xs)) xs ≡ take n xs
take_least zero xs = let e : min 0 (length xs) ≡ 0 = omega arith in rw e
take_least (suc n) [] = let e : min (suc n) 0 ≡ 0 = omega arith in rw e
take_least (suc n) (x ∷ xs) = let e : min (suc n) (suc (length xs)) ≡ suc (min n (length xs)) = omega arith in rw (e, take_least n xs)

module _ (t : Reply) where
  -- where the first event is all
  pub reply_alone : t.queues ≤ 0 → t.count ≤ 0 → {l m : List ℕ} {at r : ℕ} → Laid l at (length (event_bytes t.first)) (event_bytes t.first) r m
      → Laid l at (length (log_bytes (events_told t))) (log_bytes (events_told t)) r m
  unfolding events_told
  reply_alone q n u =
      let no : t.queues ≡ 0 = omega arith in
      let none : t.count ≡ 0 = omega arith in
      rw (no, none, log_one t.first) u

  pub first-laid : {begins : Event → Bool} → Shaped begins 0 0 t → {e : Event} {l m : List ℕ} {at r : ℕ} → Laid l at (length (event_bytes e)) (event_bytes e) r m
      → t.first ≡ e → Laid l at (length (log_bytes (events_told t))) (log_bytes (events_told t)) r m
  first-laid s u q = reply_alone s.entries s.tickets (case-laid event_bytes _ u q)

  -- of the entries and the tickets that are told
  module _ {q : List Queued} {s : List ℕ} (few : q ≡ take t.queues t.queued) (count : s ≡ take t.count t.tickets) where
    reply-parts : event_bytes t.first ++ (log_bytes (map queued_event q) ++ log_bytes (map Released s)) ≡ log_bytes (events_told t)
    unfolding events_told records.log_bytes
    reply-parts = rw (few, count, log_append)

    pub reply-fits : ((i : ℕ) → get_or t.tickets i 0 < 2 ^ 32) → Fitting t.first → AllFitting (map queued_event q) → AllFitting (events_told t)
    unfolding events_told
    reply-fits small f w = (f, fitting_append (queued_told t.queues t.queued) _ (rw few at w) (tickets_fit t.tickets small t.count))

    -- by the sizes that the code adds up
    pub reply-sized : {f n : ℕ} → f ≡ length (event_bytes t.first) → n ≡ length (log_bytes (map queued_event q))
        → f + n + 5 * length s ≡ length (log_bytes (events_told t))
    reply-sized e g =
        let m = released-length s in
        rw (← reply-parts, length-append, length-append, m, e, g) (omega arith)

    -- by the parts that the code stores
    pub reply-laid : {l m₁ m₂ m : List ℕ} {at i j r : ℕ} → Laid l at (length (event_bytes t.first)) (event_bytes t.first) i m₁
        → Laid m₁ i (length (log_bytes (map queued_event q))) (log_bytes (map queued_event q)) j m₂
        → Laid m₂ j (5 * length s) (log_bytes (map Released s)) r m
        → Laid l at (length (log_bytes (events_told t))) (log_bytes (events_told t)) r m
    reply-laid u v w = laid_sized (laid_as (laid_then u refl (laid_then v refl w)) reply-parts) (let z = reply-sized refl refl in omega arith)
