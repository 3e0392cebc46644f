-- An access by its parts: the place decides between a refusal and an offer, the plan between a refusal and the act.
use Rattle.std.specs.Prelude.{Result, Ok, Err}
use Rattle.words.proofs.General.{ℕ, ◌≡◌, refl, sym, ap, subst, ◌∙◌, true, false, List}
use Rattle.model.proofs.Terms.{address_of, well_formed, Line, Tables, Lent, lent, Spot, at, ways_of, met_in, access, proceed, Leaves, encoded, Encodes}
use Rattle.model.specs.declared.Settings.{Settings}
use Rattle.model.specs.declared.Access.{Access}
use Rattle.model.specs.declared.Refusal.{Refusal}
use Rattle.model.specs.declared.Refusal.TheVariants.{BadAccess}
use Rattle.model.specs.declared.Reply.{Reply}
use Rattle.model.proofs.SoundFacts.{parts}
use Rattle.encoding.proofs.Bridge.{is_tables}
use Rattle.layout.specs.declared.Layout.{Layout}
use Rattle.layout.specs.Layout.{LaysOut}
use Rattle.layout.specs.Places.{First}
use Rattle.tables.proofs.Tellings.{refusal_leaves}
use Rattle.probe.specs.declared.Meeting.{Meeting}
use Rattle.probe.specs.declared.Meeting.TheVariants as meeting
use Rattle.probe.specs.declared.Decision.{Decision}
use Rattle.probe.specs.Decided.{Decided, place_for, place_is}
use Rattle.model.proofs.Turning.{set_below}
use Rattle.probe.proofs.OfTables.{decided_probe}
use Rattle.access.specs.Plan.{Met, Meets, Planned, Acts, MayAct, Acted, Offered, told_by, miss_plan, following}
use Rattle.access.specs.declared.asked.Offer.{Offer}
use Rattle.access.specs.declared.plan.MissPlan.{MissPlan}
use Rattle.tables.proofs.Queue.{queue_counted}
use Rattle.access.proofs.Plans.{plan_is}
use Rattle.access.proofs.PlanTests.{shown}

-- ---- the plan

module _ (S : Settings) {L : Lent} (x : Access) (d : Decision) (t : Tables) (p : Spot) (m : Met S L x d t p) {r : Result MissPlan Refusal} (planned : r ≡ miss_plan S x p t) where
  pub proceeds : proceed S x t (at p) ≡ following S x p t r
  proceeds = plan_is S m.is.range t (parts S t m.is.soundly) x m.formed p m.probed ∙ ap (following S x p t) (sym planned)

-- what a plan asks of the act, and what the act then leaves
module _ {S : Settings} {longs words marks : List ℕ} {o : Offer} {c : MissPlan} {place : Layout} (pl : LaysOut S place)
    (used : First marks place.kinds S.queue 0 o.queued) (plan : Planned S (lent longs words marks) o.access o.decision (Ok c)) where
  acts : (t : Tables) (p : Spot) → Met S (lent longs words marks) o.access o.decision t p → Acts S (lent longs words marks) o c t p
  acts t p m = record { met = m; counted = queue_counted S t m.is pl used; planned = plan.on t p m }

  pub may_act : Meets S (lent longs words marks) o.access o.decision → MayAct S (lent longs words marks) o c
  may_act m = record { tables = m.tables; spot = m.spot; acts = acts m.tables m.spot m.met }

  pub offered_acted : {r : Reply} {M : Lent} → Acted S (lent longs words marks) o c r M → Offered S (lent longs words marks) o.access o.decision (Ok r) M
  offered_acted a = record { on = λ t p m. rw (proceeds S o.access o.decision t p m (plan.on t p m)) (a.on t p (acts t p m)) }

-- what a refusal leaves
pub offered-refused : (S : Settings) {L : Lent} {x : Access} {d : Decision} {n : Refusal} → Planned S L x d (Err n) → Offered S L x d (Err n) L
offered-refused S {L} {x} {d} {n} plan = record { on = λ t p m. rw (proceeds S x d t p m (plan.on t p m)) (refusal_leaves n L) }

-- ---- the place

pub formed-refused : (S : Settings) (L : Lent) (x : Access) → well_formed x ≡ false → (t : Tables) → Leaves (encoded S (access S x t)) L (told_by (Err BadAccess)) L
unfolding access
formed-refused S L x f t = rw f (refusal_leaves BadAccess L)

accessing : (S : Settings) (x : Access) (t : Tables) → well_formed x ≡ true → access S x t ≡ proceed S x t (met_in S x t)
unfolding access
accessing S x t f = rw f

-- the place of a decision is a spot
spot_of : (k : Meeting) (ways : List Line) (a : ℕ) (d : Decision) → (p : Spot) × (place_for k ways a d ≡ at p)
spot_of meeting.Met ways a d = (_, refl)
spot_of meeting.Taken ways a d = (_, refl)

module _ (S : Settings) {longs words marks : List ℕ} (x : Access) {r : Result Decision Refusal} (decided : Decided S longs words marks x r) (formed : well_formed x ≡ true)
    (t : Tables) (is : Encodes S (lent longs words marks) t) where
  place_stands : place_is (ways_of S t.lines (address_of x)) (address_of x) r ≡ met_in S x t
  place_stands = decided_probe S (lent longs words marks) (is_tables S (lent longs words marks) t is) (set_below S is.range (address_of x)) decided

  pub access_stops : {n : Refusal} → r ≡ Err n → Leaves (encoded S (access S x t)) (lent longs words marks) (told_by (Err n)) (lent longs words marks)
  unfolding proceed
  access_stops {n} e =
      let stands : place_is (ways_of S t.lines (address_of x)) (address_of x) (Err n) ≡ met_in S x t = subst (λ r. place_is (ways_of S t.lines (address_of x)) (address_of x) r ≡ met_in S x t) e place_stands in
      rw (accessing S x t formed, ← stands) (refusal_leaves n (lent longs words marks))

  module _ {d : Decision} (e : r ≡ Ok d) where
    -- the spot
    spot_met : (p : Spot) × Met S (lent longs words marks) x d t p
    spot_met =
        let (p, q) = spot_of d.meeting (ways_of S t.lines (address_of x)) (address_of x) d in
        let way = (shown d.meeting (ways_of S t.lines (address_of x)) (address_of x) d p refl q).way in
        let stands = decided.stands d e in
        let place : place_is (ways_of S t.lines (address_of x)) (address_of x) (Ok d) ≡ met_in S x t = subst (λ r. place_is (ways_of S t.lines (address_of x)) (address_of x) r ≡ met_in S x t) e place_stands in (
          p,
          record {
            is = is;
            formed = formed;
            probed = sym place ∙ q;
            decided = q;
            numbered = rw way stands.line;
            way = stands.way;
            below = stands.below;
          },
        )

    pub spot_meets : Meets S (lent longs words marks) x d
    spot_meets = let (p, m) = spot_met in record { tables = t; spot = p; met = m }

    pub access-offered : {r : Result Reply Refusal} {M : Lent} → Offered S (lent longs words marks) x d r M → Leaves (encoded S (access S x t)) (lent longs words marks) (told_by r) M
    access-offered o =
        let (p, m) = spot_met in
        rw (accessing S x t formed, m.probed) (o.on t p m)
