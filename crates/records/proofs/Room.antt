-- How many bytes a call's events are, of each step on tables.
use Rattle.words.proofs.General.{ℕ, ◌+◌, ◌≤◌, le_trans, arith, ◌≡◌, refl, true, ◌||◌, List, [], ◌∷◌, map, map-append, length, length-append, ltb, leb, lit≤, le-leb, leb-true, all}
use Rattle.words.proofs.General.{any, by_flag, pick_both, in_all}
use Rattle.model.proofs.Terms.{in_range, address_of, line_number, reading, Tables, Outcome, refused, done, events_of, with_now, last_cycle, sound, ways_of, rule_of, is_miss, fetches}
use Rattle.model.proofs.Terms.{queues, queued_event, sent_event, accept, access, after_send, send, tickets_of, after_fill, sent_for, fill, tick, bytes_of, event_bytes, log_bytes, fill_bytes}
use Rattle.model.proofs.Terms.{step_of}
use Rattle.model.specs.RecordsOf as records
use Rattle.model.specs.declared.Settings.{Settings}
use Rattle.model.specs.declared.Queued.{Queued}
use Rattle.model.specs.declared.Answer.{Answer}
use Rattle.model.specs.declared.Refusal.{Refusal}
use Rattle.model.specs.declared.Refusal.TheVariants.{SettingOutOfRange, NotSent, BadCycle}
use Rattle.model.specs.declared.Access.{Access}
use Rattle.model.specs.declared.Access.TheVariants.{Read, Write}
use Rattle.model.specs.declared.Event.{Event}
use Rattle.model.specs.declared.Event.TheVariants.{Answered, Released, Filled, Ticked}
use Rattle.model.specs.declared.Command.{Command}
use Rattle.model.specs.declared.Command.TheVariants as cmd
use Rattle.records.proofs.Encoding.{event_short}
use Rattle.records.proofs.Log.{released_by, released-length}
use Rattle.model.proofs.Logs.{log_append}
use Rattle.model.proofs.SoundFacts.{parts, tickets_of_lem}
use Rattle.model.proofs.Fits.{ranged}
use Rattle.model.proofs.AccessCases.{access_judged}
use Rattle.model.proofs.SendFillKeepSound.{send-cases}
use Rattle.model.proofs.Victims.{backs_at_most_one}

-- ---- a log's length, event by event

log_more : (e : Event) (es : List Event) → length (log_bytes (e ∷ es)) ≡ length (event_bytes e) + length (log_bytes es)
unfolding records.log_bytes
log_more e es = length-append (event_bytes e) (log_bytes es)

-- ---- a refusal, and one event

-- the events of an outcome take n bytes at most
pub record TakesRoom (n : ℕ) (o : Outcome Tables) : Type 0 where
  pub most : length (log_bytes (events_of o)) ≤ n

pub refused_takes : (r : Refusal) → TakesRoom 2 (refused r)
unfolding records.log_bytes records.event_bytes bytes_of
refused_takes r = record { most = lit≤ tt }

one_takes : (e : Event) (t : Tables) → TakesRoom 25 (done (e ∷ []) t)
unfolding records.log_bytes
one_takes e t = let n = log_more e [] in let h = event_short e in record { most = omega arith }

takes_more : {m n : ℕ} {o : Outcome Tables} → TakesRoom m o → m ≤ n → TakesRoom n o
takes_more h g = record { most = le_trans h.most g }

refused-within : (n : ℕ) (r : Refusal) → 2 ≤ n → TakesRoom n (refused r)
refused-within n r h = takes_more (refused_takes r) h

-- ---- an access: its answer, a read, a write-back

queued_short : (qs : List Queued) → length qs ≤ 1 → length (log_bytes (map queued_event qs)) ≤ 25
unfolding records.log_bytes
queued_short [] h = lit≤ tt
queued_short (q ∷ []) h = let n = log_more (queued_event q) [] in let e = event_short (queued_event q) in omega arith
queued_short (q ∷ p ∷ qs) h = absurd (omega arith)

fetch_short : (x : Access) (a : Answer) → length (log_bytes (map queued_event (fetches x a))) ≤ 9
unfolding records.log_bytes records.event_bytes bytes_of
fetch_short (Read a m k) n = by_flag (λ (q : List Queued). length (log_bytes (map queued_event q)) ≤ 9) (is_miss n) (reading a ∷ []) [] (λ e. lit≤ tt) (λ e. lit≤ tt)
fetch_short (Write a m k) n = lit≤ tt

pub access_takes : (S : Settings) (x : Access) (t : Tables) → TakesRoom 38 (access S x t)
unfolding access accept records.event_bytes bytes_of
access_takes S x t =
    access_judged (rule_of S) S t x (TakesRoom 38) (λ n. refused-within _ n (lit≤ tt)) (λ p j.
    let f = fetch_short x p.answer in
    let b = queued_short p.backs (backs_at_most_one (rule_of S t (address_of x)) S t.dirty_count (ways_of S t.lines (address_of x)) x p j.met) in
    let n = log_more (Answered p.answer (line_number S (address_of x) p.way)) (map queued_event (queues x p)) in
    let q : length (log_bytes (map queued_event (queues x p))) ≡ length (log_bytes (map queued_event (fetches x p.answer))) + length (log_bytes (map queued_event p.backs)) =
    rw (map-append, log_append, length-append) in
    record { most = omega arith })

-- ---- send, tick, fill

pub send_takes : (t : Tables) → TakesRoom 25 (send t)
send_takes t = send-cases t (TakesRoom 25) (λ n. refused-within _ n (lit≤ tt)) (λ q qs e. one_takes (sent_event q) (after_send q qs t))

pub tick_takes : (c : ℕ) (t : Tables) → TakesRoom 25 (tick c t)
unfolding tick
tick_takes c t = pick_both (TakesRoom 25) (ltb c t.now || ltb last_cycle c) (refused-within _ BadCycle (lit≤ tt)) (one_takes Ticked (with_now c t))

pub fill_takes : (a : ℕ) (t : Tables) → all (λ e. leb (length e.tickets) 8) t.misses ≡ true → TakesRoom fill_bytes (fill a t)
unfolding fill records.event_bytes bytes_of
fill_takes a t h =
    let k = leb-true (length (tickets_of a t.misses)) 8 (released_by (λ ts. leb (length ts) 8) refl a t.misses h) in
    let r = released-length (tickets_of a t.misses) in
    let n = log_more (Filled a) (map Released (tickets_of a t.misses)) in
    let m : TakesRoom fill_bytes (done (Filled a ∷ map Released (tickets_of a t.misses)) (after_fill a t)) = record { most = omega arith } in
    pick_both (TakesRoom fill_bytes) (any (sent_for a) t.misses) m (refused-within _ NotSent (lit≤ tt))

-- ---- every step of a command on sound tables

sound_few : (S : Settings) (t : Tables) → in_range S ≡ true → sound S t ≡ true → all (λ e. leb (length e.tickets) 8) t.misses ≡ true
sound_few S t r h =
    in_all (λ e. leb (length e.tickets) 8) t.misses
    (λ e i. le-leb (length e.tickets) 8 (le_trans (tickets_of_lem S t (parts S t h) e i).1 (ranged S r).readers))

pub step_takes : (S : Settings) (c : Command) (t : Tables) → in_range S ≡ true → sound S t ≡ true → TakesRoom fill_bytes (step_of S c t)
step_takes S (cmd.Settings g) t e h = refused-within _ SettingOutOfRange (lit≤ tt)
step_takes S (cmd.Read a k) t e h = takes_more (access_takes S (Read a 0 k) t) (lit≤ tt)
step_takes S (cmd.Write a m) t e h = takes_more (access_takes S (Write a m 0) t) (lit≤ tt)
step_takes S cmd.Send t e h = takes_more (send_takes t) (lit≤ tt)
step_takes S (cmd.Fill a) t e h = fill_takes a t (sound_few S t e h)
step_takes S (cmd.Tick c) t e h = takes_more (tick_takes c t) (lit≤ tt)
