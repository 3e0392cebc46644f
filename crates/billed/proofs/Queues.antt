-- The law of the queue: what stood in it and what a call's events tell queued is what they tell sent and what stands in it after.
use Rattle.words.proofs.General.{ℕ, ◌≡◌, refl, sym, ap, ◌∙◌, inl, true, List, [], ◌∷◌, ◌++◌, map, append-nil, append_assoc, length, replicate, eqb, eqb-true, all, any, and_1}
use Rattle.words.proofs.General.{and_2, four_whole}
use Rattle.model.proofs.Terms.{in_range, Entry, Tables, Outcome, refused, after, events_of, unsent_for, kind_ok, queued_ok, Rules, fetches, queues, queued_as, queued_event, sent_as}
use Rattle.model.proofs.Terms.{sent_event, accept, tickets_of, Call, step_under}
use Rattle.model.specs.declared.Settings.{Settings}
use Rattle.model.specs.declared.QueueKind.{QueueKind}
use Rattle.model.specs.declared.QueueKind.TheVariants as queue
use Rattle.model.specs.declared.Queued.{Queued}
use Rattle.model.specs.declared.Access.{Access}
use Rattle.model.specs.declared.Answer.{Answer}
use Rattle.model.specs.declared.Event.{Event}
use Rattle.model.specs.declared.Event.TheVariants as ev
use Rattle.model.specs.declared.Refusal.{Refusal}
use Rattle.model.proofs.SoundFacts.{Sound, queued_at_lem, queued_parts}
use Rattle.model.proofs.AccessKeepsSound.{misses_by}
use Rattle.billed.proofs.Laws.{step_cases}
use Rattle.billed.specs.Queue.{queued_from, sent_from, entries_by, queued_by, sent_by}

-- ---- entries and their events

-- a read's masks, which are zero
zero_masks : (ms : List ℕ) → all (λ m. eqb m 0) ms ≡ true → replicate (length ms) 0 ≡ ms
zero_masks [] h = refl
zero_masks (m ∷ ms) h =
    let z : m ≡ 0 = eqb-true m 0 (and_1 (eqb m 0) (all (λ m. eqb m 0) ms) h) in
    rw (z, zero_masks ms (and_2 (eqb m 0) (all (λ m. eqb m 0) ms) h))

module _ (es : List Entry) where
  -- an entry of a sound queue is the one that its event tells
  told_as : (k : QueueKind) (a : ℕ) (ms : List ℕ) → length ms ≡ 4 → kind_ok es k a ms ≡ true
      → (queued_from (queued_as k a ms) ≡ record { kind = k; address = a; masks = ms } ∷ []) × (sent_from (sent_as k a ms) ≡ record { kind = k; address = a; masks = ms } ∷ [])
  told_as queue.Read a ms four h =
      let z : replicate 4 0 ≡ ms = rw four at (zero_masks ms (and_2 (any (unsent_for a) es) (all (λ m. eqb m 0) ms) h)) in (rw z, rw z)
  told_as queue.WriteBack b ms four h = let z = four_whole 0 ms four in (rw z, rw z)

  told : (q : Queued) → queued_ok es q ≡ true → (queued_from (queued_event q) ≡ q ∷ []) × (sent_from (sent_event q) ≡ q ∷ [])
  told q h = let (four, small, asked) = queued_parts es q h in told_as q.kind q.address q.masks four asked

  all_told : (qs : List Queued) → all (queued_ok es) qs ≡ true → queued_by (map queued_event qs) ≡ qs
  unfolding entries_by
  all_told [] h = refl
  all_told (q ∷ qs) h =
      rw (told q (and_1 (queued_ok es q) _ h)).0 (ap (λ (l : List Queued). q ∷ l) (all_told qs (and_2 (queued_ok es q) _ h)))

-- what is queued tells of nothing sent, and what is sent of nothing queued
apart : (k : QueueKind) (a : ℕ) (ms : List ℕ) → (sent_from (queued_as k a ms) ≡ []) × (queued_from (sent_as k a ms) ≡ [])
apart queue.Read a ms = (refl, refl)
apart queue.WriteBack b ms = (refl, refl)

none_sent : (qs : List Queued) → sent_by (map queued_event qs) ≡ []
unfolding entries_by
none_sent [] = refl
none_sent (q ∷ qs) = rw (apart q.kind q.address q.masks).0 (none_sent qs)

tickets_none : (f : Event → List Queued) → ((k : ℕ) → f (ev.Released k) ≡ []) → (ts : List ℕ) → entries_by f (map ev.Released ts) ≡ []
unfolding entries_by
tickets_none f h [] = refl
tickets_none f h (k ∷ ts) = rw (h k) (tickets_none f h ts)

fetch_told : (x : Access) (n : Answer) (qs : List Queued) → queued_by (map queued_event (fetches x n ++ qs)) ≡ fetches x n ++ queued_by (map queued_event qs)
unfolding entries_by
fetch_told x n qs =
    misses_by (λ f r es. queued_by (map queued_event (r ++ qs)) ≡ r ++ queued_by (map queued_event qs)) x n [] (λ e k. refl) (λ e k. refl) refl

-- ---- each step

-- a call on the tables t that came to o
abbrev pub TellsQueue : Tables → Outcome Tables → Type 0
TellsQueue t o = t.queue ++ queued_by (events_of o) ≡ sent_by (events_of o) ++ (after t o).queue

refused-tells : (t : Tables) (n : Refusal) → TellsQueue t (refused n)
unfolding entries_by
refused-tells t n = append-nil t.queue

-- the queue after an accepted call is the queue before, less its head for a send, and exactly the entries that its events tell
pub step_tells : (R : Rules) (S : Settings) → in_range S ≡ true → (t : Tables) → Sound S t → (k : Call) → TellsQueue t (step_under R S k t)
unfolding accept entries_by
step_tells R S range t ok =
    step_cases R S range t ok (λ k o. TellsQueue t o) (λ k n. refused-tells t n)
    (λ x p a. rw (none_sent (queues x p), fetch_told x p.answer p.backs, all_told [] p.backs (a.spotted.backed [])))
    (λ x q h.
    let good : queued_ok t.misses x ≡ true = queued_at_lem S t ok x (rw h (inl refl)) in
    rw ((apart x.kind x.address x.masks).1, (told t.misses x good).1, h) (append-nil (x ∷ q)))
    (λ a. rw (tickets_none queued_from (λ k. refl) (tickets_of a t.misses), tickets_none sent_from (λ k. refl) (tickets_of a t.misses)) (append-nil t.queue))
    (λ c. append-nil t.queue)

-- ---- one part of a history after another

pub entries_append : (f : Event → List Queued) (es fs : List Event) → entries_by f (es ++ fs) ≡ entries_by f es ++ entries_by f fs
unfolding entries_by
entries_append f [] fs = refl
entries_append f (e ∷ es) fs = rw (entries_append f es fs) (sym (append_assoc (f e) (entries_by f es) (entries_by f fs)))

-- queues p, q, r; es tells how p became q, fs how q became r
pub tells-append : (p q r : List Queued) (es fs : List Event) → p ++ queued_by es ≡ sent_by es ++ q → q ++ queued_by fs ≡ sent_by fs ++ r
    → p ++ queued_by (es ++ fs) ≡ sent_by (es ++ fs) ++ r
tells-append p q r es fs a b =
    rw (entries_append queued_from es fs, entries_append sent_from es fs)
    (sym (append_assoc p (queued_by es) (queued_by fs)) ∙ ap (λ (l : List Queued). l ++ queued_by fs) a ∙ append_assoc (sent_by es) q (queued_by fs)
    ∙ ap (λ (l : List Queued). sent_by es ++ l) b ∙ sym (append_assoc (sent_by es) (sent_by fs) r))
