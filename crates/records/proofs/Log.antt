-- A log of events as bytes, part by part, as the code stores it.
use Rattle.words.proofs.General.{ℕ, zero, suc, ◌+◌, ◌*◌, ◌≤◌, ◌<◌, add-zero, add-one, arith, ◌≡◌, refl, sym, ap, ◌∙◌, Bool, true, List, [], ◌∷◌, ◌++◌, map, append-nil, map-append}
use Rattle.words.proofs.General.{length, take, get_or, length-append, take-suc, length-take-le, take_all, all, and_1, and_2, by_flag}
use Rattle.model.proofs.Terms.{Entry, entry_for, queued_event, tickets_of, bytes_of, event_bytes, log_bytes}
use Rattle.model.specs.RecordsOf as records
use Rattle.model.specs.declared.Queued.{Queued}
use Rattle.model.specs.declared.Event.{Event}
use Rattle.model.specs.declared.Event.TheVariants.{Released}
use Rattle.records.specs.Stores.{Laid}
use Rattle.records.specs.Parts.{queued_told, tickets_told}
use Rattle.records.proofs.Stores.{laid_then, laid_as, laid_sized}
use Rattle.model.proofs.Logs.{log_append}

pub log_one : (e : Event) → log_bytes (e ∷ []) ≡ event_bytes e
unfolding records.log_bytes
log_one e = append-nil (event_bytes e)

-- ---- entries that were queued

-- all of them
pub queued_all : (xs : List Queued) (n : ℕ) → length xs ≤ n → queued_told n xs ≡ map queued_event xs
queued_all xs n h = rw (take_all n xs h)

-- fewer of them are no more bytes
pub queued_fewer : (m n : ℕ) (xs : List Queued) → m ≤ n → length (log_bytes (queued_told m xs)) ≤ length (log_bytes (queued_told n xs))
unfolding records.log_bytes
queued_fewer zero n xs h = omega arith
queued_fewer (suc m) zero xs h = absurd (omega arith)
queued_fewer (suc m) (suc n) [] h = omega arith
queued_fewer (suc m) (suc n) (x ∷ xs) h =
    let k = queued_fewer m n xs (omega arith) in
    omega (arith, length-append (event_bytes (queued_event x)) (log_bytes (queued_told m xs)), length-append (event_bytes (queued_event x)) (log_bytes (queued_told n xs)))

pub queued_start : (xs : List Queued) (l : List ℕ) (at : ℕ) → Laid l at (length (log_bytes (queued_told 0 xs))) (log_bytes (queued_told 0 xs)) at l
unfolding records.log_bytes
queued_start xs l at = record { next = sym (add-zero at); slice = refl }

module _ (xs : List Queued) (d : Queued) (j : ℕ) (h : j < length xs) {e : Event} (is : e ≡ queued_event (get_or xs j d)) where
  pub queued_next : queued_told (j + 1) xs ≡ queued_told j xs ++ (e ∷ [])
  queued_next = rw (is, add-one, take-suc xs j d h, map-append)

  queued_bytes : log_bytes (queued_told j xs) ++ event_bytes e ≡ log_bytes (queued_told (j + 1) xs)
  queued_bytes = rw (queued_next, log_append, log_one)

  pub queued_longer : length (log_bytes (queued_told (j + 1) xs)) ≡ length (log_bytes (queued_told j xs)) + length (event_bytes e)
  queued_longer = ap length (sym queued_bytes) ∙ length-append (log_bytes (queued_told j xs)) (event_bytes e)

  pub queued_turn : {l m g : List ℕ} {at i r : ℕ} → Laid l at (length (log_bytes (queued_told j xs))) (log_bytes (queued_told j xs)) i m
      → Laid m i (length (event_bytes e)) (event_bytes e) r g → Laid l at (length (log_bytes (queued_told (j + 1) xs))) (log_bytes (queued_told (j + 1) xs)) r g
  queued_turn u v = laid_sized (laid_as (laid_then u refl v) queued_bytes) (sym queued_longer)

-- ---- tickets

-- what holds of no ticket and of each entry's tickets holds of those that a fill releases
pub released_by : (p : List ℕ → Bool) → p [] ≡ true → (a : ℕ) (es : List Entry) → all (λ e. p e.tickets) es ≡ true → p (tickets_of a es) ≡ true
released_by p z a [] h = z
released_by p z a (e ∷ es) h =
    by_flag (λ (ts : List ℕ). p ts ≡ true) (entry_for a e) e.tickets (tickets_of a es)
    (λ q. and_1 (p e.tickets) _ h) (λ q. released_by p z a es (and_2 (p e.tickets) _ h))

pub released-length : (ts : List ℕ) → length (log_bytes (map Released ts)) ≡ 5 * length ts
unfolding records.log_bytes records.event_bytes bytes_of
released-length [] = refl
released-length (t ∷ ts) = let h = released-length ts in omega arith

pub tickets_all : (ts : List ℕ) (n : ℕ) → length ts ≤ n → tickets_told n ts ≡ map Released ts
tickets_all ts n h = rw (take_all n ts h)

module _ (ts : List ℕ) where
  pub tickets_length : (j : ℕ) → j ≤ length ts → length (log_bytes (tickets_told j ts)) ≡ 5 * j
  tickets_length j h = released-length (take j ts) ∙ ap (λ (n : ℕ). 5 * n) (length-take-le j ts h)

  pub tickets_start : (l : List ℕ) (at : ℕ) → Laid l at (5 * 0) (log_bytes (tickets_told 0 ts)) at l
  unfolding records.log_bytes
  tickets_start l at = record { next = sym (add-zero at); slice = refl }

  pub tickets_turn : (j : ℕ) {l m h : List ℕ} {at i r : ℕ} → j < length ts → Laid l at (5 * j) (log_bytes (tickets_told j ts)) i m
      → Laid m i 5 (0x14 ∷ bytes_of 4 (get_or ts j 0)) r h → Laid l at (5 * (j + 1)) (log_bytes (tickets_told (j + 1) ts)) r h
  unfolding records.event_bytes
  tickets_turn j h u v =
      let more : log_bytes (tickets_told j ts) ++ event_bytes (Released (get_or ts j 0)) ≡ log_bytes (tickets_told (j + 1) ts) =
      rw (add-one, take-suc ts j 0 h, map-append, log_append, log_one) in
      laid_sized (laid_as (laid_then u (tickets_length j (omega arith)) v) more) (omega arith)
