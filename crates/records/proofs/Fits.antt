-- The events of a step on sound tables whose tickets are 32 bits fit the bytes that document 01 gives them, and the tables after it have such
-- tickets again; a command read out of bytes fits. What fits reads back (RoundTrip).
use Rattle.std.specs.Prelude.{Some, None}
use Rattle.words.proofs.General.{ℕ, zero, suc, ◌%◌, ◌^◌, ◌≤◌, ◌<◌, pow-zero, pow-suc, arith, ◌≡◌, refl, ◌∙◌, Bool, true, not, ◌&&◌, ◌||◌, List, [], ◌∷◌, ◌++◌, map, length, get_or}
use Rattle.words.proofs.General.{leb, ltb, eqb, le-leb, leb-true, ltb-true, eqb-true, all, any, keep, and_1, and_2, and_i, clash, by_flag, pick_both, In, all_in, in_all, any-in}
use Rattle.words.proofs.General.{in-keep, all_append, all_map}
use Rattle.model.proofs.Terms.{in_range, lines_of, address_of, good_sector, good_block, Entry, reading, Tables, Outcome, after, events_of, entry_for, all_ones, last_cycle, unsent_for}
use Rattle.model.proofs.Terms.{entry_ok, kind_ok, queued_ok, sound, rule_of, is_merge, is_miss, join, on_misses, fetches, queued_as, queued_event, sent_as, sent_event, accept, access, mark}
use Rattle.model.proofs.Terms.{marked_for, send, tickets_of, others, sent_for, fill, tick, is_settings, length_of, number_at, command_in, command_of, step_of}
use Rattle.model.specs.Kinds as kinds
use Rattle.model.specs.RecordsOf as records
use Rattle.model.specs.declared.Settings.{Settings}
use Rattle.model.specs.declared.QueueKind.{QueueKind}
use Rattle.model.specs.declared.QueueKind.TheVariants as queue
use Rattle.model.specs.declared.Queued.{Queued}
use Rattle.model.specs.declared.Answer.{Answer}
use Rattle.model.specs.declared.Access.{Access}
use Rattle.model.specs.declared.Access.TheVariants.{Read, Write}
use Rattle.model.specs.declared.Event.{Event}
use Rattle.model.specs.declared.Event.TheVariants.{Released}
use Rattle.model.specs.declared.Command.{Command}
use Rattle.model.specs.declared.Command.TheVariants as cmd
use Rattle.model.proofs.SoundFacts.{Sound, parts, entry_parts, queued_parts}
use Rattle.model.proofs.Fits.{ranged}
use Rattle.model.proofs.AccessKeepsSound.{formed_good}
use Rattle.model.proofs.Answers.{by_kind}
use Rattle.model.proofs.AccessCases.{access_judged, access-cases}
use Rattle.model.proofs.SendFillKeepSound.{send-cases}
use Rattle.model.proofs.RunSound.{bytes}
use Rattle.records.specs.Fitting.{WriteBackFits, Fitting, AllFitting, RuleFits, CommandFits, CommandReadFits, words, stamped, TicketFits}
use Rattle.records.proofs.Log.{released_by}

-- the events of an outcome fit
abbrev Fits : Outcome Tables → Type 0
Fits o = AllFitting (events_of o)

-- ---- addresses and masks

-- an element of a list, and what stands for one past its end
all_at : (p : ℕ → Bool) → p 0 ≡ true → (s : List ℕ) (i : ℕ) → all p s ≡ true → p (get_or s i 0) ≡ true
all_at p z [] i h = z
all_at p z (b ∷ s) zero h = and_1 (p b) (all p s) h
all_at p z (b ∷ s) (suc i) h = all_at p z s i (and_2 (p b) (all p s) h)

word_low : (m : ℕ) → leb m all_ones ≡ true → m < 2 ^ 32
word_low m h = let q = leb-true m all_ones h in omega arith

sector_low : (a : ℕ) → good_sector a ≡ true → a < 2 ^ 64
sector_low a h = let l = ltb-true a (2 ^ 48) (and_2 (eqb (a % 32) 0) (ltb a (2 ^ 48)) h) in omega arith

back_fits : (es : List Entry) (b : ℕ) (ms : List ℕ) → kind_ok es queue.WriteBack b ms ≡ true → words ms ≡ true
    → WriteBackFits b (get_or ms 0 0) (get_or ms 1 0) (get_or ms 2 0) (get_or ms 3 0)
back_fits es b ms h w =
    let g : good_block b ≡ true = search and_1 depth 9 in
    let l = ltb-true b (2 ^ 48) (and_2 (eqb (b % 128) 0) (ltb b (2 ^ 48)) g) in
    let m : (i : ℕ) → get_or ms i 0 < 2 ^ 32 = λ i. word_low (get_or ms i 0) (all_at (λ m. leb m all_ones) refl ms i w) in
    record { block = omega arith; mask0 = m 0; mask1 = m 1; mask2 = m 2; mask3 = m 3 }

module _ (S : Settings) (t : Tables) (ok : Sound S t) where
  entry_low : (e : Entry) → In e t.misses → e.address < 2 ^ 64
  entry_low e i = sector_low e.address (entry_parts S t e (all_in (entry_ok S t) t.misses ok.entered i)).good

  -- an address that some entry has
  entered_low : (p : Entry → Bool) (a : ℕ) → any (λ e. entry_for a e && p e) t.misses ≡ true → a < 2 ^ 64
  entered_low p a h =
      let f = any-in (λ e. entry_for a e && p e) t.misses h in
      let q = eqb-true f.0.address a (and_1 (entry_for a f.0) (p f.0) f.2) in
      let l = entry_low f.0 f.1 in
      omega arith

-- ---- an access

-- an entry's event, queued and sent, if the address of every unsent read is one
module _ (es : List Entry) (low : (a : ℕ) → any (unsent_for a) es ≡ true → a < 2 ^ 64) where
  kind_fits : (k : QueueKind) (a : ℕ) (ms : List ℕ) → kind_ok es k a ms ≡ true → words ms ≡ true → Fitting (queued_as k a ms) × Fitting (sent_as k a ms)
  kind_fits queue.Read a ms h w = let l = low a (and_1 (any (unsent_for a) es) (all (λ m. eqb m 0) ms) h) in (l, l)
  kind_fits queue.WriteBack b ms h w = let f = back_fits es b ms h w in (f, f)

  entry_fits : (q : Queued) → queued_ok es q ≡ true → Fitting (queued_event q) × Fitting (sent_event q)
  entry_fits q h = let (four, w, k) = queued_parts es q h in kind_fits q.kind q.address q.masks k w

all_fit : {A : Type 0} (f : A → Event) (p : A → Bool) → ((x : A) → p x ≡ true → Fitting (f x)) → (xs : List A) → all p xs ≡ true → AllFitting (map f xs)
all_fit f p g [] h = tt
all_fit f p g (x ∷ xs) h = (g x (and_1 (p x) (all p xs) h), all_fit f p g xs (and_2 (p x) (all p xs) h))

fetched_fit : (x : Access) (n : Answer) (qs : List Queued) → address_of x < 2 ^ 64 → AllFitting (map queued_event qs)
    → AllFitting (map queued_event (fetches x n ++ qs))
fetched_fit (Read a m k) n qs h g = by_flag (λ (l : List Queued). AllFitting (map queued_event (l ++ qs))) (is_miss n) (reading a ∷ []) [] (λ e. (h, g)) (λ e. g)
fetched_fit (Write a m k) n qs h g = g

pub access_fits : (S : Settings) (x : Access) (t : Tables) → in_range S ≡ true → sound S t ≡ true → AllFitting (events_of (access S x t))
unfolding access accept
access_fits S x t range ok =
    let h = parts S t ok in
    let size : length t.lines ≡ lines_of S = eqb-true (length t.lines) (lines_of S) h.sized in
    let few = (ranged S range).lines in
    access-cases (rule_of S) S t x range h Fits (λ n. (tt, tt)) (λ p a.
    let low = a.spotted.inside in (
      omega arith,
      fetched_fit x p.answer p.backs (sector_low (address_of x) (formed_good x a.judged.formed))
          (all_fit queued_event (queued_ok []) (λ q k. (entry_fits [] (λ a n. clash n refl) q k).0) p.backs (a.spotted.backed [])),
    ))

-- ---- send, fill, tick

pub send_fits : (S : Settings) (t : Tables) → sound S t ≡ true → AllFitting (events_of (send t))
send_fits S t ok =
    let h = parts S t ok in
    send-cases t Fits (λ n. (tt, tt)) (λ q qs e.
    let f : all (queued_ok t.misses) (q ∷ qs) ≡ true = rw e at h.lining in
    ((entry_fits t.misses (entered_low S t h (λ e. not e.sent)) q (and_1 (queued_ok t.misses q) _ f)).1, tt))

pub fill_fits : (S : Settings) (a : ℕ) (t : Tables) → sound S t ≡ true → stamped t ≡ true → AllFitting (events_of (fill a t))
unfolding fill
fill_fits S a t ok few =
    by_flag Fits (any (sent_for a) t.misses) _ _
    (λ h. (entered_low S t (parts S t ok) (λ e. e.sent) a h, all_fit Released (λ m. leb m all_ones) word_low (tickets_of a t.misses) (released_by words refl a t.misses few)))
    (λ h. (tt, tt))

pub tick_fits : (c : ℕ) (t : Tables) → AllFitting (events_of (tick c t))
unfolding tick
tick_fits c t = pick_both Fits (ltb c t.now || ltb last_cycle c) (tt, tt) (tt, tt)

pub step_fits : (S : Settings) (c : Command) (t : Tables) → in_range S ≡ true → sound S t ≡ true → stamped t ≡ true → AllFitting (events_of (step_of S c t))
step_fits S (cmd.Settings g) t range ok few = (tt, tt)
step_fits S (cmd.Read a k) t range ok few = access_fits S (Read a 0 k) t range ok
step_fits S (cmd.Write a m) t range ok few = access_fits S (Write a m 0) t range ok
step_fits S cmd.Send t range ok few = send_fits S t ok
step_fits S (cmd.Fill a) t range ok few = fill_fits S a t ok few
step_fits S (cmd.Tick c) t range ok few = tick_fits c t

-- ---- the tickets after a step

abbrev stamps : List Entry → Bool
stamps es = all (λ e. words e.tickets) es

map-stamps : (f : Entry → Entry) → ((e : Entry) → words e.tickets ≡ true → words (f e).tickets ≡ true) → (es : List Entry) → stamps es ≡ true
    → stamps (map f es) ≡ true
map-stamps f g es h = all_map f (λ e. words e.tickets) es ∙ in_all (λ e. words (f e).tickets) es (λ e i. g e (all_in (λ e. words e.tickets) es h i))

one_word : (k : ℕ) → k ≤ all_ones → words (k ∷ []) ≡ true
one_word k h = and_i (le-leb k all_ones h) refl

join-words : (a k : ℕ) → k ≤ all_ones → (e : Entry) → words e.tickets ≡ true → words (join a k e).tickets ≡ true
join-words a k h e w =
    by_flag (λ (d : Entry). words d.tickets ≡ true) (entry_for a e) _ _
    (λ q. all_append (λ m. leb m all_ones) e.tickets (k ∷ []) ∙ and_i w (one_word k h))
    (λ q. w)

mark-words : (a : ℕ) (e : Entry) → words e.tickets ≡ true → words (mark a e).tickets ≡ true
mark-words a e w = pick_both (λ (d : Entry). words d.tickets ≡ true) (entry_for a e) w w

misses_stamped : (x : Access) (n : Answer) (es : List Entry) → TicketFits x → stamps es ≡ true → stamps (on_misses x n es) ≡ true
misses_stamped (Read a m k) n es h w =
    by_flag (λ (l : List Entry). stamps l ≡ true) (is_merge n) _ _
    (λ q. map-stamps (join a k) (join-words a k h) es w)
    (λ q. by_flag (λ (l : List Entry). stamps l ≡ true) (is_miss n) _ _
    (λ q. all_append (λ e. words e.tickets) es _ ∙ and_i w (and_i (one_word k h) refl))
    (λ q. w))
misses_stamped (Write a m k) n es h w = w

module _ (t : Tables) (few : stamped t ≡ true) where
  abbrev KeepsStamped : Outcome Tables → Type 0
  KeepsStamped o = stamped (after t o) ≡ true

  pub access-stamped : (S : Settings) (x : Access) → TicketFits x → stamped (after t (access S x t)) ≡ true
  unfolding access accept
  access-stamped S x h = access_judged (rule_of S) S t x KeepsStamped (λ n. few) (λ p j. misses_stamped x p.answer t.misses h few)

  pub send-stamped : stamped (after t (send t)) ≡ true
  send-stamped =
      send-cases t KeepsStamped (λ n. few) (λ q qs e.
      by_kind (λ k. stamps (marked_for k q.address t.misses) ≡ true) (map-stamps (mark q.address) (mark-words q.address) t.misses few) few q.kind)

  pub fill-stamped : (a : ℕ) → stamped (after t (fill a t)) ≡ true
  unfolding fill
  fill-stamped a =
      by_flag KeepsStamped (any (sent_for a) t.misses) _ _
      (λ h. in_all (λ e. words e.tickets) (keep (others a) t.misses) (λ e i. all_in (λ e. words e.tickets) t.misses few (in-keep (others a) t.misses i).0))
      (λ h. few)

  pub tick-stamped : (c : ℕ) → stamped (after t (tick c t)) ≡ true
  unfolding tick
  tick-stamped c = pick_both KeepsStamped (ltb c t.now || ltb last_cycle c) few few

  pub step_stamped : (S : Settings) (c : Command) → CommandFits c → stamped (after t (step_of S c t)) ≡ true
  step_stamped S (cmd.Settings g) h = few
  step_stamped S (cmd.Read a k) h = access-stamped S (Read a 0 k) (let l = h.1 in omega arith)
  step_stamped S (cmd.Write a m) h = access-stamped S (Write a m 0) tt
  step_stamped S cmd.Send h = send-stamped
  step_stamped S (cmd.Fill a) h = fill-stamped a
  step_stamped S (cmd.Tick c) h = tick-stamped c

-- ---- a command read out of bytes

number_below : (s : List ℕ) → bytes s ≡ true → (n i : ℕ) → number_at s i n < 256 ^ n
unfolding number_at
number_below s h zero i = rw pow-zero (omega arith)
number_below s h (suc n) i =
    let q = number_below s h n (suc i) in
    let d = ltb-true (get_or s i 0) 256 (all_at (λ b. ltb b 256) refl s i h) in
    rw pow-suc (omega arith)

pub command_read_fits : (k : ℕ) (b : List ℕ) → bytes b ≡ true → CommandReadFits (command_of k b)
unfolding records.command_of
command_read_fits k b h =
    let n = number_below b h in
    by_flag CommandReadFits (eqb (length b) (length_of k)) (command_in k b) None
    (λ e. by_flag CommandReadFits (is_settings k) _ _
    (λ e. record { sets = n 2 0; ways = n 1 2; dirty = n 1 3; misses = n 1 4; readers = n 1 5; queue = n 1 6; rule = by_flag RuleFits (eqb k kinds.ruled) (Some (number_at b 7 1)) None (λ e. n 1 7) (λ e. tt) })
    (λ e. by_flag CommandReadFits (eqb k 1) _ _ (λ e. (n 8 0, n 4 8))
    (λ e. by_flag CommandReadFits (eqb k 2) _ _ (λ e. (n 8 0, n 4 8))
    (λ e. by_flag CommandReadFits (eqb k 3) _ _ (λ e. tt)
    (λ e. by_flag CommandReadFits (eqb k 4) _ _ (λ e. n 8 0)
    (λ e. by_flag CommandReadFits (eqb k 5) _ _ (λ e. n 4 0) (λ e. tt)))))))
    (λ e. tt)
