-- How many queue places and miss entries are in use after a step, by what it told.
use Rattle.words.proofs.General.{ℕ, zero, suc, ◌+◌, ◌-◌, ◌≤◌, ◌<◌, add-zero, arith, ◌≡◌, refl, sym, ap, subst, ◌∙◌, ◌⊎◌, inl, inr, ⊎_elim, Bool, true, false, not, ◌&&◌, List, []}
use Rattle.words.proofs.General.{◌∷◌, ◌++◌, map, length, get_or, take, length-map, length-append, eqb, ltb, lt-ltb, eqb-true, eqb-false, pick, any, count, keep, one, and_1, by_flag}
use Rattle.words.proofs.General.{clash, flag, any-in, lt_or_ge, last_or_below}
use types.Run.{OneOf, miss}
use denote.Enum.Declared.{tag_of}
use Rattle.model.proofs.Terms.{address_of, is_read, mask_of, Entry, Tables, entry_for, Outcome, after, events_of, lent, all_ones, Spot, at, ways_of, rule_of, met_in, takes_line, on_misses}
use Rattle.model.proofs.Terms.{fetches, queues, queued_event, accept, access, send_from, send, others, sent_for, fill, Matched, Replaced, events_told, tidied, Encodes, SoundSlices}
use Rattle.model.proofs.Terms.{Does}
use Rattle.model.specs.declared.Settings.{Settings}
use Rattle.model.specs.declared.Access.{Access}
use Rattle.model.specs.declared.Access.TheVariants.{Read, Write}
use Rattle.model.specs.declared.Answer.{Answer}
use Rattle.model.specs.declared.Answer.TheVariants.{Hit, HitReserved, Miss, SectorMiss}
use Rattle.model.specs.declared.Event.{Event}
use Rattle.model.specs.declared.Event.TheVariants.{Answered, Refused, ReadQueued, WriteBackQueued, Released, ReadSent, WriteBackSent, Filled, Ticked}
use Rattle.model.specs.declared.Refusal.TheVariants.{NotSent}
use Rattle.model.specs.declared.Queued.{Queued}
use Rattle.model.specs.declared.Reply.{Reply}
use Rattle.model.proofs.SendFillKeepSound.{marked-length}
use Rattle.model.specs.contracts.Event.{the_type}
use Rattle.model.proofs.SoundFacts.{Sound, parts, entry_at}
use Rattle.model.proofs.Soundness.{access_keeps_sound, send_keeps_sound, fill_keeps_sound}
use Rattle.model.proofs.Victims.{probe_meets}
use Rattle.model.proofs.AccessCases.{access_judged}
use Rattle.encoding.proofs.Bridge.{does_tells, does_is}
use Rattle.encoding.proofs.ReplyShapes.{access_shaped}
use Rattle.layout.specs.declared.Layout.{Layout}
use Rattle.running.specs.declared.record.Went.{Went}
use Rattle.layout.specs.Layout.{LaysOut}
use Rattle.layout.specs.Places.{First}
use Rattle.tables.proofs.Queue.{queue_counted}
use Rattle.tables.proofs.Misses.{misses_counted}
use Rattle.running.specs.Resume.{UsedInMarks, entries_left}

-- ---- a search always finds a place

first_there_lem : (l : List ℕ) (from n x : ℕ) → (r : ℕ) × First l from n x r
first_there_lem l from zero x = (0, record { most = omega arith; before = λ k h e. absurd (omega arith); there = λ h. absurd (omega arith) })
first_there_lem l from (suc n) x =
    let (r, f) = first_there_lem l from n x in
    ⊎_elim
    (λ (below : r < n). (r, record { most = omega arith; before = f.before; there = λ h. f.there below }))
    (λ (past : n ≤ r).
    let last : r ≡ n = omega (arith, f.most) in
    ⊎_elim
    (λ (e : eqb (get_or l (from + n) 0) x ≡ true). (r, record { most = omega (arith, f.most); before = f.before; there = λ h. rw last (eqb-true _ _ e) }))
    (λ (e : eqb (get_or l (from + n) 0) x ≡ false). (
      suc n,
      record {
        most = omega arith;
        before = λ k h q. ⊎_elim (λ (z : k ≡ n). eqb-false _ _ e (rw z at q)) (λ (below : k < n). f.before k (omega arith) q) (last_or_below n k h);
        there = λ h. absurd (omega arith);
      },
    ))
    (flag (eqb (get_or l (from + n) 0) x)))
    (lt_or_ge r n)

-- ---- what is counted is what the tables have

module _ (S : Settings) {longs words marks : List ℕ} (t : Tables) (is : Encodes S (lent longs words marks) t) {place : Layout} (p : LaysOut S place) where
  counts : {q m : ℕ} → UsedInMarks S place marks q m → (q ≡ length t.queue) × (m ≡ length t.misses)
  counts c = (queue_counted S t is p c.queue, misses_counted S t is p c.misses)

  counted_as : {q m : ℕ} → q ≡ length t.queue → m ≡ length t.misses → UsedInMarks S place marks q m
  counted_as e f =
      let a = first_there_lem marks place.kinds S.queue 0 in
      let b = first_there_lem marks place.counts S.misses 0 in
      record {
        queue = subst (λ (r : ℕ). First marks place.kinds S.queue 0 r) (queue_counted S t is p a.1 ∙ sym e) a.1;
        misses = subst (λ (r : ℕ). First marks place.counts S.misses 0 r) (misses_counted S t is p b.1 ∙ sym f) b.1;
      }

-- ---- an access

-- a read that queues makes an entry: without a MISS nothing is written back
entries_made : (x : Access) (p : Spot) (es : List Entry) → (takes_line p.answer ≡ false → p.backs ≡ [])
    → length (on_misses x p.answer es) ≡ length es + one (is_read x && ltb 0 (length (queues x p)))
entries_made (Write a m k) p es quiet = omega arith
entries_made (Read a m k) p es quiet = go p.answer quiet
  where
    go : (n : Answer) → (takes_line n ≡ false → p.backs ≡ []) → length (on_misses (Read a m k) n es) ≡ length es + one (ltb 0 (length (fetches (Read a m k) n ++ p.backs)))
    go Hit quiet = rw (quiet refl) (omega arith)
    go HitReserved quiet = rw (quiet refl, length-map) (omega arith)
    go Miss quiet = rw (lt-ltb 0 (suc (length p.backs)) (omega arith), length-append)
    go SectorMiss quiet = rw (lt-ltb 0 (suc (length p.backs)) (omega arith), length-append)

none_made : (x : Access) → one (is_read x && ltb 0 0) ≡ 0
none_made (Read a m k) = refl
none_made (Write a m k) = refl

access_counts : (S : Settings) (x : Access) (t : Tables) (k : ℕ) → length (events_of (access S x t)) ≡ 1 + k
    → (length (after t (access S x t)).queue ≡ length t.queue + k) × (length (after t (access S x t)).misses ≡ length t.misses + one (is_read x && ltb 0 k))
unfolding access accept
access_counts S x t =
    access_judged (rule_of S) S t x
    (λ o. (k : ℕ) → length (events_of o) ≡ 1 + k → (length (after t o).queue ≡ length t.queue + k) × (length (after t o).misses ≡ length t.misses + one (is_read x && ltb 0 k)))
    (λ n k e. let z : k ≡ 0 = omega arith in rw (z, none_made x) (omega arith, omega arith))
    (λ p j k e.
    let q : length (queues x p) ≡ k = omega (arith, length-map (queues x p) queued_event) in
    (rw length-append (omega arith), rw q at (entries_made x p t.misses (quiet p j.met))))
  where
    quiet : (p : Spot) → met_in S x t ≡ at p → takes_line p.answer ≡ false → p.backs ≡ []
    quiet p met n = go (probe_meets (rule_of S t (address_of x)) S t.dirty_count (ways_of S t.lines (address_of x)) x p met)
      where
        go : Matched (ways_of S t.lines (address_of x)) x p ⊎ Replaced (rule_of S t (address_of x)) S t.dirty_count (ways_of S t.lines (address_of x)) x p → p.backs ≡ []
        go (inl w) = w.backs
        go (inr w) = clash (ap takes_line w.answer) n

-- its value has an event for each entry that it queues, behind its answer
reply_long : (r : Reply) → tidied r ≡ r → r.count ≤ 0 → length (events_told r) ≡ 1 + r.queues
unfolding events_told tidied
reply_long r tidy none =
    let a : length (take r.queues r.queued) ≡ r.queues = ap (λ (x : Reply). x.queues) tidy in
    let b : length (take r.count r.tickets) ≡ r.count = ap (λ (x : Reply). x.count) tidy in
    simp (length-append, length-map) (omega arith)

-- ---- a send and a fill

send_counts : (t : Tables) → (length (after t (send t)).queue ≡ length t.queue - 1) × (length (after t (send t)).misses ≡ length t.misses)
unfolding send
send_counts t = go t.queue refl
  where
    go : (qs : List Queued) → t.queue ≡ qs → (length (after t (send_from qs t)).queue ≡ length qs - 1) × (length (after t (send_from qs t)).misses ≡ length t.misses)
    go [] e = (rw e, refl)
    go (x ∷ qs) e = (omega arith, marked-length x.kind x.address t.misses)

kept_long : (a : ℕ) (l : List Entry) → length (keep (others a) l) + count (entry_for a) l ≡ length l
kept_long a [] = refl
kept_long a (x ∷ l) = go (entry_for a x) (kept_long a l)
  where
    go : (b : Bool) → length (keep (others a) l) + count (entry_for a) l ≡ length l
        → length (pick (not b) (x ∷ keep (others a) l) (keep (others a) l)) + pick b (suc (count (entry_for a) l)) (count (entry_for a) l) ≡ suc (length l)
    go true e = omega arith
    go false e = omega arith

module _ (S : Settings) (t : Tables) (ok : Sound S t) (a : ℕ) where
  removed : any (sent_for a) t.misses ≡ true → length (keep (others a) t.misses) ≡ length t.misses - 1
  removed y =
      let (e, m, q) = any-in (sent_for a) t.misses y in
      let is : e.address ≡ a = eqb-true e.address a (and_1 (entry_for a e) e.sent q) in
      let once : count (entry_for a) t.misses ≡ 1 = rw is at (eqb-true (count (entry_for e.address) t.misses) 1 (entry_at S t ok e m).once) in
      omega (arith, kept_long a t.misses)

  fill_counts : {e : Event} {es : List Event} → events_of (fill a t) ≡ e ∷ es
      → ((after t (fill a t)).queue ≡ t.queue) × (length (after t (fill a t)).misses ≡ entries_left e (length t.misses))
  unfolding fill
  fill_counts {e} {es} =
      by_flag (λ (o : Outcome Tables). events_of o ≡ e ∷ es → ((after t o).queue ≡ t.queue) × (length (after t o).misses ≡ entries_left e (length t.misses)))
      (any (sent_for a) t.misses) _ _
      (λ y h. let q : e ≡ Filled a = cc in (refl, rw q (removed y)))
      (λ n h. let q : e ≡ Refused NotSent = cc in (refl, rw q))

-- an event that is no fill's, by its place in the enum, leaves as many
abbrev no_filled : List ℕ
no_filled = 0 ∷ 1 ∷ 2 ∷ 3 ∷ 4 ∷ 5 ∷ 6 ∷ 8 ∷ []

pub left_other : (e : Event) (n : ℕ) → OneOf no_filled (tag_of the_type e) → n ≡ entries_left e n
left_other (Answered a line) n h = refl
left_other (Refused r) n h = refl
left_other (ReadQueued a) n h = refl
left_other (WriteBackQueued b m0 m1 m2 m3) n h = refl
left_other (Released t) n h = refl
left_other (ReadSent a) n h = refl
left_other (WriteBackSent b m0 m1 m2 m3) n h = refl
left_other (Filled a) n h = absurd (miss no_filled 7 tt h)
left_other Ticked n h = refl

first-told : (r : Reply) → events_told r ≡ r.first ∷ (map queued_event (take r.queues r.queued) ++ map Released (take r.count r.tickets))
unfolding events_told
first-told r = refl

-- ---- the counts that the runner goes on with

module _ (S : Settings) {longs words marks : List ℕ} (held : SoundSlices S (lent longs words marks)) {place : Layout} (p : LaysOut S place) {q m : ℕ} (c : UsedInMarks S place marks q m) where
  abbrev t : Tables
  t = held.tables

  abbrev i : Encodes S (lent longs words marks) t
  i = held.are

  before : (q ≡ length t.queue) × (m ≡ length t.misses)
  before = counts S t i p c

  pub counted_access : {reply : Reply} {longs' words' marks' : List ℕ} (x : Access) → mask_of x ≤ all_ones → Does S (access S x) (lent longs words marks) reply (lent longs' words' marks')
      → UsedInMarks S place marks' (q + reply.queues) (m + one (is_read x && ltb 0 reply.queues))
  counted_access {reply} x small d =
      let w = access_counts S x t reply.queues (sym (ap length (does_tells S d t i)) ∙ reply_long reply (d.on t i).tidy (access_shaped S held x d).tickets) in
      counted_as S (after t (access S x t)) (does_is S d t i (access_keeps_sound S x t i.range small i.soundly)) p
      (omega (arith, before.0, w.0)) (omega (arith, before.1, w.1))

  pub counted_send : {reply : Reply} {longs' words' marks' : List ℕ} → Does S send (lent longs words marks) reply (lent longs' words' marks') → UsedInMarks S place marks' (q - 1) m
  counted_send d =
      let w = send_counts t in
      counted_as S (after t (send t)) (does_is S d t i (send_keeps_sound S t i.soundly)) p (omega (arith, before.0, w.0)) (before.1 ∙ sym w.1)

  pub counted_fill : {reply : Reply} {longs' words' marks' : List ℕ} (a : ℕ) → Does S (fill a) (lent longs words marks) reply (lent longs' words' marks') → UsedInMarks S place marks' q (entries_left reply.first m)
  counted_fill {reply} a d =
      let w = fill_counts S t (parts S t i.soundly) a (sym (does_tells S d t i) ∙ first-told reply) in
      counted_as S (after t (fill a t)) (does_is S d t i (fill_keeps_sound S a t i.soundly)) p
      (before.0 ∙ ap length (sym w.0)) (ap (entries_left reply.first) before.1 ∙ sym w.1)

-- what an access leaves that queues nothing
pub went_none : (w : Went) (x : Access) {n : ℕ} → n ≡ 0
    → ◌≡◌ {A = Went} w (record { at = w.at; out = w.out; queued = w.queued + n; missed = w.missed + one (is_read x && ltb 0 n) })
went_none w (Read a b c) e = rw (e, add-zero w.queued, add-zero w.missed)
went_none w (Write a b c) e = rw (e, add-zero w.queued, add-zero w.missed)

-- and that queues something
pub went_some : (w : Went) (x : Access) (n : ℕ) {f : ℕ} → 0 < n → f ≡ one (is_read x)
    → ◌≡◌ {A = Went} (record { at = w.at; out = w.out; queued = w.queued + n; missed = w.missed + f }) (record { at = w.at; out = w.out; queued = w.queued + n; missed = w.missed + one (is_read x && ltb 0 n) })
went_some w (Read a b c) n h e = rw (e, lt-ltb 0 n h)
went_some w (Write a b c) n h e = rw e
