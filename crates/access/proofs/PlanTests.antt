-- What a decision says of the spot that it stands for, the plan by the tests of the code, and the tests that led to a plan.
use Rattle.std.specs.Prelude.{Result, Ok, Err, Option, Some, None, is_some}
use Rattle.words.proofs.General.{ℕ, ◌+◌, ◌≤◌, ◌<◌, arith, ◌≡◌, refl, ap, ◌∙◌, Bool, true, false, ◌&&◌, List, [], ◌∷◌, ◌++◌, length, get_or, length-append, ltb, leb, lt-ltb, le-ltb}
use Rattle.words.proofs.General.{leb-false, ltb-false, pick, any, one, by_flag, clash}
use Rattle.model.proofs.Terms.{address_of, is_read, block_of, Line, reading, Tables, entry_for, fresh, emptied, Lent, lent, Spot, at, ways_of, is_merge, is_miss, fetches, queues}
use Rattle.model.proofs.Terms.{places_needed}
use Rattle.model.specs.declared.Settings.{Settings}
use Rattle.model.specs.declared.Queued.{Queued}
use Rattle.model.specs.declared.Access.{Access}
use Rattle.model.specs.declared.Access.TheVariants.{Read, Write}
use Rattle.model.specs.declared.Answer.{Answer}
use Rattle.model.specs.declared.Refusal.{Refusal}
use Rattle.model.specs.declared.Refusal.TheVariants.{QueueFull}
use Rattle.model.proofs.SoundFacts.{parts}
use Rattle.layout.specs.declared.Layout.{Layout}
use Rattle.layout.specs.Layout.{LaysOut}
use Rattle.layout.specs.Places.{First}
use Rattle.probe.specs.declared.Meeting.{Meeting}
use Rattle.probe.specs.declared.Meeting.TheVariants.{Met as MetWay, Taken}
use Rattle.probe.specs.declared.Back.{Back}
use Rattle.probe.specs.declared.Decision.{Decision}
use Rattle.probe.specs.Decided.{place_for, listed, backs_of}
use Rattle.access.specs.Plan.{Met, Joining, Planned, starting, miss_plan, entry_index, tickets_at}
use Rattle.access.specs.Written.{sectors_for, queues_of}
use Rattle.access.specs.declared.plan.MissPlan.{MissPlan}
use Rattle.access.specs.declared.plan.MissPlan.TheVariants.{Stays, Joins, Starts}
use Rattle.tables.proofs.Queue.{queue_counted}
use Rattle.tables.proofs.Misses.{misses_counted}
use Rattle.access.proofs.Plans.{merged_entry}

-- ---- what is queued: a read by a flag, a write-back if there is one

pub fetches_are : (x : Access) (n : Answer) → fetches x n ≡ pick (is_read x && is_miss n) (reading (address_of x) ∷ []) []
fetches_are (Read a m k) n = refl
fetches_are (Write a m k) n = refl

flag_length : (b : Bool) (y : Queued) → length (pick b (y ∷ []) []) ≡ one b
flag_length true y = refl
flag_length false y = refl

listed_length : (o : Option Back) → length (listed o) ≡ one (is_some o)
listed_length (Some y) = refl
listed_length None = refl

pub queues_count : (x : Access) (d : Decision) → length (queues_of x d) ≡ one (is_read x && is_miss d.answer) + one (is_some d.back)
queues_count x d =
    length-append (pick (is_read x && is_miss d.answer) (reading (address_of x) ∷ []) []) (backs_of d)
    ∙ rw (flag_length (is_read x && is_miss d.answer) (reading (address_of x)), listed_length d.back)

-- how many places the two kinds need
pub read_needs : (x : Access) (d : Decision) {n : ℕ} → is_read x ≡ true → n ≡ one (is_miss d.answer) + one (is_some d.back) → n ≡ one (is_read x && is_miss d.answer) + one (is_some d.back)
read_needs x d r e = rw r e

pub write_needs : (x : Access) (d : Decision) {n : ℕ} → is_read x ≡ false → n ≡ one (is_some d.back) → n ≡ one (is_read x && is_miss d.answer) + one (is_some d.back)
write_needs x d r e = rw r (omega (arith, e))

-- ---- the spot of a decision

pub record Shown (ways : List Line) (a : ℕ) (d : Decision) (p : Spot) : Type 0 where
  pub way : p.way ≡ d.way
  pub answer : p.answer ≡ d.answer
  pub backs : p.backs ≡ backs_of d
  pub sectors : p.line.sectors ≡ sectors_for d.meeting (get_or ways d.way fresh).sectors

pub shown : (m : Meeting) (ways : List Line) (a : ℕ) (d : Decision) (p : Spot) → d.meeting ≡ m → place_for m ways a d ≡ at p → Shown ways a d p
shown MetWay ways a d p k e =
    let line : p.line ≡ get_or ways d.way fresh = cc in
    record { way = cc; answer = cc; backs = cc; sectors = ap (λ (l : Line). l.sectors) line ∙ rw k }
shown Taken ways a d p k e =
    let line : p.line ≡ emptied (block_of a) = cc in
    record { way = cc; answer = cc; backs = cc; sectors = ap (λ (l : Line). l.sectors) line ∙ rw k }

module _ (S : Settings) {L : Lent} (x : Access) (d : Decision) (t : Tables) (p : Spot) (m : Met S L x d t p) where
  pub shows : Shown (ways_of S t.lines (address_of x)) (address_of x) d p
  shows = shown d.meeting (ways_of S t.lines (address_of x)) (address_of x) d p refl m.decided

  pub answer_is : p.answer ≡ d.answer
  answer_is = shows.answer

  pub queues_are : queues x p ≡ queues_of x d
  queues_are = rw (shows.backs, answer_is) (ap (λ (l : List Queued). l ++ backs_of d) (fetches_are x d.answer))

  module _ {q n : ℕ} (counted : q ≡ length t.queue) (asked : n ≡ one (is_read x && is_miss d.answer) + one (is_some d.back)) where
    same_test : ltb S.queue (length t.queue + places_needed x p) ≡ ltb S.queue (q + n)
    same_test = rw (counted, asked, ap length queues_are ∙ queues_count x d)

    module _ (room : q + n ≤ S.queue) where
      pub plan-write : is_read x ≡ false → Ok Stays ≡ miss_plan S x p t
      plan-write r = rw (same_test, answer_is, le-ltb S.queue (q + n) room, r)

      pub plan-hit : is_read x ≡ true → is_merge d.answer ≡ false → is_miss d.answer ≡ false → Ok Stays ≡ miss_plan S x p t
      plan-hit reads other hits = rw (same_test, answer_is, le-ltb S.queue (q + n) room, reads, hits, other)

  pub merge_entered : {a : ℕ} → a ≡ address_of x → is_merge d.answer ≡ true → any (entry_for a) t.misses ≡ true
  merge_entered here h = rw here (merged_entry S m.is.range t (parts S t m.is.soundly) x m.formed p m.probed (ap is_merge answer_is ∙ h))

-- ---- the plan by the tests of the code: q queue places are in use, and n are asked for

module _ (S : Settings) {longs words marks : List ℕ} {x : Access} {d : Decision} {place : Layout} (pl : LaysOut S place) {q n : ℕ} (used : First marks place.kinds S.queue 0 q)
    (asked : n ≡ one (is_read x && is_miss d.answer) + one (is_some d.back)) where
  counted : (t : Tables) (p : Spot) → Met S (lent longs words marks) x d t p → q ≡ length t.queue
  counted t p m = queue_counted S t m.is pl used

  pub full_planned : S.queue < q + n → Planned S (lent longs words marks) x d (Err QueueFull)
  full_planned h = record { on = λ t p m. rw (same_test S x d t p m (counted t p m) asked, lt-ltb S.queue (q + n) h) }

  module _ (room : q + n ≤ S.queue) where
    pub write-planned : is_read x ≡ false → Planned S (lent longs words marks) x d (Ok Stays)
    write-planned writes = record { on = λ t p m. plan-write S x d t p m (counted t p m) asked room writes }

    module _ (reads : is_read x ≡ true) where
      pub join-planned : {a : ℕ} {r : Result MissPlan Refusal} → is_merge d.answer ≡ true → a ≡ address_of x → Joining S (lent longs words marks) a r → Planned S (lent longs words marks) x d r
      join-planned merges here j = record {
        on = λ t p m.
            (rw here at (j.on t m.is (merge_entered S x d t p m here merges)))
            ∙ rw (same_test S x d t p m (counted t p m) asked, answer_is S x d t p m, le-ltb S.queue (q + n) room, reads, merges);
      }

      module _ (other : is_merge d.answer ≡ false) where
        pub start-planned : {k : ℕ} {r : Result MissPlan Refusal} → is_miss d.answer ≡ true → First marks place.counts S.misses 0 k → r ≡ starting S k → Planned S (lent longs words marks) x d r
        start-planned misses f e = record {
          on = λ t p m.
              e ∙ rw (misses_counted S t m.is pl f, same_test S x d t p m (counted t p m) asked, answer_is S x d t p m, le-ltb S.queue (q + n) room, reads, misses, other);
        }

        pub hit-planned : is_miss d.answer ≡ false → Planned S (lent longs words marks) x d (Ok Stays)
        hit-planned hits = record { on = λ t p m. plan-hit S x d t p m (counted t p m) asked room reads other hits }

-- ---- what a plan says that was planned: which tests led to it, and that its writes have room

-- the tests behind a plan that is not refused
pub record Tested (S : Settings) (x : Access) (p : Spot) (t : Tables) (merge miss : Bool) : Type 0 where
  pub roomy : length t.queue + places_needed x p ≤ S.queue
  pub merges : (is_read x && is_merge p.answer) ≡ merge
  pub misses : merge ≡ false → (is_read x && is_miss p.answer) ≡ miss

module _ (S : Settings) (x : Access) (p : Spot) (t : Tables) where
  -- what each plan means
  abbrev pub Means : MissPlan → Type 0
  Means Stays = Tested S x p t false false
  Means (Joins e n) = Tested S x p t true false × (e ≡ entry_index (address_of x) t.misses) × (n ≡ tickets_at e t.misses) × (n < S.readers)
  Means (Starts m) = Tested S x p t false true × (m ≡ length t.misses) × (m < S.misses)

  abbrev pub MeansIfMade : Result MissPlan Refusal → Type 0
  MeansIfMade (Err n) = Unit {0}
  MeansIfMade (Ok c) = Means c

  pub plan_means : MeansIfMade (miss_plan S x p t)
  plan_means =
      by_flag MeansIfMade (ltb S.queue (length t.queue + places_needed x p)) _ _ (λ e. tt)
      (λ e. let roomy = ltb-false S.queue (length t.queue + places_needed x p) e in
      by_flag MeansIfMade (is_read x && is_merge p.answer) _ _
      (λ f. by_flag MeansIfMade (leb S.readers (tickets_at (entry_index (address_of x) t.misses) t.misses)) _ _ (λ g. tt)
      (λ g. (record { roomy = roomy; merges = f; misses = λ z. clash refl z }, refl, refl, leb-false S.readers (tickets_at (entry_index (address_of x) t.misses) t.misses) g)))
      (λ f. by_flag MeansIfMade (is_read x && is_miss p.answer) _ _
      (λ g. by_flag MeansIfMade (leb S.misses (length t.misses)) _ _ (λ k. tt)
      (λ k. (record { roomy = roomy; merges = f; misses = λ z. g }, refl, leb-false S.misses (length t.misses) k)))
      (λ g. record { roomy = roomy; merges = f; misses = λ z. g })))
