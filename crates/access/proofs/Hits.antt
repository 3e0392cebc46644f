-- A read that hits and a write to a line that is there queue nothing and leave the miss table, so none of refusals 7, 8 and 9 applies:
-- the line and the tree of its set are all that `proceed` says.
use Rattle.std.specs.Prelude.{Ok, None, is_some}
use Rattle.words.proofs.General.{ℕ, ◌+◌, ◌≤◌, arith, ◌≡◌, refl, ap, ◌∙◌, true, false, ◌&&◌, false≢true, List, [], ◌∷◌, length, get_or, one, put}
use Rattle.model.proofs.Terms.{address_of, is_read, block_of, set_index, Tables, Lent, lent, sectors_at, Spot, at, is_hit, is_merge, is_miss, takes_line, proceed, Leaves, encoded}
use Rattle.model.specs.declared.Settings.{Settings}
use Rattle.model.specs.declared.Access.{Access}
use Rattle.model.specs.declared.Answer.{Answer}
use Rattle.model.specs.declared.Answer.TheVariants.{Hit, HitReserved, Miss, SectorMiss}
use Rattle.model.specs.declared.Event.TheVariants.{Answered}
use Rattle.model.specs.declared.Reply.{Reply}
use Rattle.model.proofs.SoundFacts.{parts, few_queued}
use Rattle.layout.specs.declared.Layout.{Layout}
use Rattle.layout.specs.Layout.{LaysOut}
use Rattle.tables.specs.Telling.{telling}
use Rattle.probe.specs.declared.Decision.{Decision}
use Rattle.access.specs.Plan.{Met, Acts, miss_plan}
use Rattle.access.specs.declared.asked.Offer.{Offer}
use Rattle.access.specs.Written.{sectors_for, sectors_after, line_left, trees_written}
use Rattle.access.specs.declared.plan.MissPlan.TheVariants.{Stays}
use Rattle.access.proofs.PlanTests.{plan-write, plan-hit}
use Rattle.access.proofs.Lines.{no_back}
use Rattle.access.proofs.Changes.{touched}
use Rattle.access.proofs.Telling.{acted}
use Rattle.access.proofs.Offering.{proceeds}

only_hit : (a : Answer) → is_hit a ≡ true → a ≡ Hit
only_hit Hit e = refl
only_hit HitReserved e = absurd (false≢true e)
only_hit Miss e = absurd (false≢true e)
only_hit SectorMiss e = absurd (false≢true e)

abbrev line_there : (S : Settings) (longs words marks : List ℕ) → Access → Decision → Layout → Lent
line_there S longs words marks x d place =
    line_left place (lent longs words marks) d.line (block_of (address_of x)) (sectors_after x d (sectors_for d.meeting (sectors_at S words marks d.line)))

module _ (S : Settings) {longs words marks : List ℕ} (x : Access) (d : Decision) (t : Tables) (p : Spot) (m : Met S (lent longs words marks) x d t p) {place : Layout} (pl : LaysOut S place)
    (stays : takes_line d.answer ≡ false) (alone : (is_read x && is_miss d.answer) ≡ false) where
  quiet : d.back ≡ None
  quiet = no_back S x d t p m stays

  none_needed : 0 ≡ one (is_read x && is_miss d.answer) + one (is_some d.back)
  none_needed = rw (alone, quiet)

  alone-offered : {r : Reply} {words' words'' marks' : List ℕ} → Ok Stays ≡ miss_plan S x p t → r ≡ telling (Answered d.answer d.line)
      → lent longs words' marks' ≡ line_there S longs words marks x d place → words'' ≡ trees_written S place (set_index S (address_of x)) d.way words'
      → Leaves (encoded S (proceed S x t (at p))) (lent longs words marks) r (lent longs words'' marks')
  alone-offered {words' = words'} {words'' = words''} {marks' = marks'} planned e line w =
      let M : Lent = lent longs words'' marks' in
      let o : Offer = record { access = x; decision = d; queued = length t.queue; missed = 0 } in
      let acts : Acts S (lent longs words marks) o Stays t p = record { met = m; counted = refl; planned = planned } in
      rw (proceeds S x d t p m planned)
      (acted S o Stays t p acts pl (lent longs words' marks') M M line (rw stays w) refl (e ∙ rw (alone, quiet)) (rw (alone, quiet)))

module _ (S : Settings) {longs words marks : List ℕ} (x : Access) (d : Decision) (t : Tables) (p : Spot) (m : Met S (lent longs words marks) x d t p)
    {place : Layout} (pl : LaysOut S place) where
  few : length t.queue + 0 ≤ S.queue
  few = omega (arith, few_queued S t (parts S t m.is.soundly))

  -- a write
  pub change_offered : {r : Reply} {words' words'' marks' : List ℕ} → takes_line d.answer ≡ false → is_read x ≡ false → r ≡ telling (Answered d.answer d.line)
      → lent longs words' marks' ≡ line_there S longs words marks x d place → words'' ≡ trees_written S place (set_index S (address_of x)) d.way words'
      → Leaves (encoded S (proceed S x t (at p))) (lent longs words marks) r (lent longs words'' marks')
  change_offered stays writes =
      let alone : (is_read x && is_miss d.answer) ≡ false = rw writes in
      alone-offered S x d t p m pl stays alone (plan-write S x d t p m refl (none_needed S x d t p m pl stays alone) few writes)

  -- a read that hits leaves its line's tag and sectors
  pub hit_offered : {r : Reply} {words'' : List ℕ} → is_read x ≡ true → is_hit d.answer ≡ true → r ≡ telling (Answered d.answer d.line)
      → words'' ≡ trees_written S place (set_index S (address_of x)) d.way (put words (1 + d.line) (get_or words 0 0 ∷ []))
      → Leaves (encoded S (proceed S x t (at p))) (lent longs words marks) r (lent longs words'' marks)
  hit_offered reads hits e w =
      let hit : d.answer ≡ Hit = only_hit d.answer hits in
      let stays = ap takes_line hit in
      let alone : (is_read x && is_miss d.answer) ≡ false = rw (reads, hit) in
      alone-offered S x d t p m pl stays alone (plan-hit S x d t p m refl (none_needed S x d t p m pl stays alone) few reads (ap is_merge hit) (ap is_miss hit))
      e (touched S x d t p m pl (rw (reads, hit))) w
