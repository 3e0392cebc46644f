-- What an accepted access tells are the events of `accept`, and its unused places are idle; so it leaves what `accept` says.
use Rattle.std.specs.Prelude.{is_some}
use Rattle.words.proofs.General.{ℕ, suc, ◌+◌, ◌*◌, ◌≤◌, ◌<◌, mul-suc, mul-le-mul_left, le_trans, arith, ◌≡◌, refl, sym, ap, subst, ◌∙◌, Bool, true, false, ◌&&◌, List, [], ◌∷◌, map}
use Rattle.words.proofs.General.{append-nil, length, set, take, leb-true, pad_to, one}
use Rattle.model.proofs.Terms.{address_of, is_read, block_of, set_index, Tables, with_lines, with_misses, with_dirty_count, with_trees, Lent, lent, sectors_at, Spot, is_miss, on_misses}
use Rattle.model.proofs.Terms.{queued_event, queues, accept, places_needed, Leaves, encoded, events_told, in_two, tidied, Sized}
use Rattle.model.specs.declared.Settings.{Settings}
use Rattle.model.specs.declared.Queued.{Queued}
use Rattle.model.specs.declared.Access.{Access}
use Rattle.model.specs.declared.Event.TheVariants.{Answered}
use Rattle.model.specs.declared.Reply.{Reply}
use Rattle.encoding.proofs.Bridge.{is_fit}
use Rattle.model.proofs.SoundFacts.{parts}
use Rattle.layout.specs.declared.Layout.{Layout}
use Rattle.layout.specs.Layout.{LaysOut}
use Rattle.layout.proofs.ByBlocks.{stands_encode}
use Rattle.probe.specs.declared.Decision.{Decision}
use Rattle.access.specs.Plan.{Met, Acts, Acted, ticket_of}
use Rattle.access.specs.declared.asked.Offer.{Offer}
use Rattle.access.specs.Written.{sectors_for, sectors_after, misses_written, queue_written, queues_of, telling_of, MissRoom, QueueRoom, line_left, taken_written, trees_written, Alone}
use Rattle.access.specs.declared.plan.MissPlan.{MissPlan}
use Rattle.access.specs.declared.plan.MissPlan.TheVariants.{Stays, Joins, Starts}
use Rattle.access.proofs.PlanTests.{queues_count, queues_are, answer_is, Means, MeansIfMade, plan_means}
use Rattle.access.proofs.Lines.{kept_stays, no_back}
use Rattle.access.proofs.Acting.{new_line, trees_new, line-written, set-turned, misses_written_lem, queue_written_lem, join-inside, new_count}

-- ---- its value

-- two places have room for what it queues
two_back : (xs : List Queued) → length xs ≤ 2 → take (length xs) (in_two xs) ≡ xs
two_back [] h = refl
two_back (a ∷ []) h = refl
two_back (a ∷ b ∷ []) h = refl
two_back (a ∷ b ∷ c ∷ xs) h = absurd (omega arith)

one_most : (b : Bool) → one b ≤ 1
one_most true = omega arith
one_most false = omega arith

queues_few : (x : Access) (d : Decision) → length (queues_of x d) ≤ 2
queues_few x d = rw (queues_count x d) (omega (arith, one_most (is_read x && is_miss d.answer), one_most (is_some d.back)))

reply_events : (x : Access) (d : Decision) → events_told (telling_of x d) ≡ Answered d.answer d.line ∷ map queued_event (queues_of x d)
unfolding events_told
reply_events x d = rw (two_back (queues_of x d) (queues_few x d), append-nil)

reply_tidy : (x : Access) (d : Decision) → tidied (telling_of x d) ≡ telling_of x d
unfolding tidied pad_to
reply_tidy x d = rw (two_back (queues_of x d) (queues_few x d))

-- ---- room for its writes

tested : (S : Settings) (x : Access) (p : Spot) (t : Tables) (c : MissPlan) → Means S x p t c → length t.queue + places_needed x p ≤ S.queue
tested S x p t Stays w = w.roomy
tested S x p t (Joins e n) w = w.0.roomy
tested S x p t (Starts e) w = w.0.roomy

module _ (S : Settings) {longs words marks : List ℕ} (o : Offer) (c : MissPlan) (t : Tables) (p : Spot)
    (a : Acts S (lent longs words marks) o c t p) {place : Layout} (pl : LaysOut S place) where
  abbrev x : Access
  x = o.access

  abbrev d : Decision
  d = o.decision

  abbrev n : ℕ
  n = o.queued

  m : Met S (lent longs words marks) x d t p
  m = a.met

  means : Means S x p t c
  means = subst (MeansIfMade S x p t) (sym a.planned) (plan_means S x p t)

  roomy : length t.queue + places_needed x p ≤ S.queue
  roomy = tested S x p t c means

  pub acts_fit : Sized S longs words marks
  acts_fit = is_fit S (lent longs words marks) t m.is

  pub miss_room : (longs' words' marks' : List ℕ) → length longs' ≡ length longs → length words' ≡ length words → length marks' ≡ length marks
      → MissRoom place S.readers c longs' words' marks'
  miss_room l w k e f g = go c means
    where
      few : length t.misses ≤ S.misses
      few = leb-true (length t.misses) S.misses (parts S t m.is.soundly).few

      go : (c : MissPlan) → Means S x p t c → MissRoom place S.readers c l w k
      go Stays z = tt
      go (Joins i j) z =
          let h = acts_fit in
          let inside : i < length t.misses = join-inside S x d t p m i z.0.merges z.1 in
          let b : S.readers * suc i ≤ S.readers * S.misses = mul-le-mul_left S.readers (le_trans inside few) in
          let s = mul-suc S.readers i in
          (omega (arith, z.3), omega (arith, z.3), omega (arith, few))
      go (Starts i) z =
          let h = acts_fit in
          let b : S.readers * suc i ≤ S.readers * S.misses = mul-le-mul_left S.readers z.2 in
          let s = mul-suc S.readers i in
          (omega (arith, z.2), omega arith, omega (arith, z.2))

  pub queue_room : (longs' words' marks' : List ℕ) → length longs' ≡ length longs → length words' ≡ length words → length marks' ≡ length marks
      → {k : ℕ} → k ≡ one (is_read x && is_miss d.answer) + one (is_some d.back) → QueueRoom place (n + k) longs' words' marks'
  queue_room l w k e f g asked =
      let h = acts_fit in
      let b : n + length (queues_of x d) ≤ S.queue = rw (a.counted, ← ap length (queues_are S x d t p m)) roomy in
      let c = asked ∙ sym (queues_count x d) in
      (omega arith, omega arith, omega arith)

  -- a read queues no write-back where it doesn't miss
  pub alone-read : is_read x ≡ true → Alone x d
  alone-read reads = record { reads = reads; alone = λ e. no_back S x d t p m (kept_stays d.answer e) }

  -- ---- what it leaves

  pub acted : (L₀ : Lent) {words₁ : List ℕ} (L₂ L₃ : Lent) {r : Reply}
      → L₀ ≡ line_left place (lent longs words marks) d.line (block_of (address_of x)) (sectors_after x d (sectors_for d.meeting (sectors_at S words marks d.line)))
      → words₁ ≡ trees_written S place (set_index S (address_of x)) d.way (taken_written place d.answer d.line L₀.words)
      → L₂ ≡ misses_written place S.readers c (address_of x) (ticket_of x) (lent L₀.longs words₁ L₀.marks)
      → r ≡ telling_of x d
      → L₃ ≡ queue_written place n (queues_of x d) L₂
      → Leaves (encoded S (accept S x p t)) (lent longs words marks) r L₃
  unfolding accept
  acted L₀ {words₁} L₂ L₃ line set_words misses tells queue =
      let L₁ : Lent = lent L₀.longs words₁ L₀.marks in
      let s₀ = line-written S x d t p m pl L₀ line refl in
      let s₁ = set-turned S x d t p m pl _ refl _ s₀ (ap (λ (ws : List ℕ). lent L₀.longs ws L₀.marks) set_words) in
      let s₂ = misses_written_lem S x d t p m pl (set t.lines d.line (new_line S x d t p m pl)) (new_count S x d t p m pl) (trees_new S x d t p m pl) L₁ L₂ s₁ c means misses in
      let q : L₃ ≡ queue_written place n (queues x p) L₂ = rw (← queues_are S x d t p m) at queue in
      let s₃ = queue_written_lem S x d t p m pl (with_misses (on_misses x p.answer t.misses) (with_trees (trees_new S x d t p m pl) (with_dirty_count (new_count S x d t p m pl) (with_lines (set t.lines d.line (new_line S x d t p m pl)) t)))) refl L₂ s₂ (λ some. a.counted) roomy q in
      record {
        tells = rw (tells, queues_are S x d t p m, answer_is S x d t p m, ← m.numbered) (reply_events x d);
        tidy = rw tells (reply_tidy x d);
        left = rw (← m.numbered) (stands_encode s₃);
      }

-- the same of any tables
pub acts_leave : {S : Settings} {longs words marks : List ℕ} {o : Offer} {c : MissPlan} {place : Layout} → LaysOut S place
    → {l₀ w₀ m₀ w₁ : List ℕ} {L₂ L₃ : Lent} {r : Reply}
    → lent l₀ w₀ m₀ ≡ line_left place (lent longs words marks) o.decision.line (block_of (address_of o.access)) (sectors_after o.access o.decision (sectors_for o.decision.meeting (sectors_at S words marks o.decision.line)))
    → w₁ ≡ trees_written S place (set_index S (address_of o.access)) o.decision.way (taken_written place o.decision.answer o.decision.line w₀)
    → L₂ ≡ misses_written place S.readers c (address_of o.access) (ticket_of o.access) (lent l₀ w₁ m₀)
    → r ≡ telling_of o.access o.decision → L₃ ≡ queue_written place o.queued (queues_of o.access o.decision) L₂ → Acted S (lent longs words marks) o c r L₃
acts_leave pl line set_words misses tells queue = record { on = λ t p acts. acted _ _ _ t p acts pl _ _ _ line set_words misses tells queue }
