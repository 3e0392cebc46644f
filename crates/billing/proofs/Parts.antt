-- The events of a log one after the other: a step goes on, and how many steps are allowed does not matter once they are enough.
use Rattle.words.proofs.General.{ℕ, zero, suc, ◌+◌, ◌-◌, ◌≤◌, ◌<◌, arith, ◌≡◌, refl, sym, ap, ◌∙◌, List, length}
use Rattle.std.specs.Prelude.{Option, Some, None}
use Rattle.model.specs.declared.Event.{Event}
use Rattle.records.specs.declared.Item.{Item}
use Rattle.records.specs.declared.Item.TheVariants as item
use Rattle.records.specs.Items.{item_at}
use Rattle.records.proofs.Items.{Past, item_end, item_past}
use Rattle.billing.specs.declared.Bill.{Bill}
use Rattle.billing.specs.Bills.{added_to, all_added}
use Rattle.billing.specs.Logs.{Passed, log_step_of, log_step_at, event_before, nothing_at, part_by, step_end, part_from, log_events, billed_log}

-- ---- one step

-- what is no event stops
no_event : (i : Item) → ((e : Event) (next : ℕ) → i ≡ item.Event e next → ⊥) → None ≡ log_step_of i
no_event (item.Event e next) h = absurd (h e next refl)
no_event (item.Command c next) h = refl
no_event item.End h = refl
no_event (item.Cut k wants left) h = refl
no_event (item.Unknown k) h = refl
no_event (item.Strange k) h = refl

module _ (s : List ℕ) (at : ℕ) where
  module _ {i : Item} (is : i ≡ item_at s at) where
    pub step_stops : ((e : Event) (next : ℕ) → i ≡ item.Event e next → ⊥) → None ≡ log_step_at s at
    unfolding log_step_at
    step_stops h = rw (← is) (no_event i h)

    pub step_goes : {e : Event} {next : ℕ} → i ≡ item.Event e next → log_step_at s at ≡ Some (record { event = e; next = next })
    unfolding log_step_at
    step_goes q = rw (← is, q)

    -- an event is a byte or more, and lies within the log
    pub event_past : {e : Event} {next : ℕ} → i ≡ item.Event e next → (at < next) × (next ≤ length s)
    event_past q = rw (← is, q) at (item_past s at)

  step_end_lem : length s ≤ at → None ≡ log_step_at s at
  unfolding log_step_at
  step_end_lem h = rw (← (item_end s at h))

  step_past : {v : Passed} → log_step_at s at ≡ Some v → (at < v.next) × (v.next ≤ length s)
  unfolding log_step_at
  step_past {v} q = by-item (item_at s at) (item_past s at) q
    where
      by-item : (i : Item) → Past (length s) at i → log_step_of i ≡ Some v → (at < v.next) × (v.next ≤ length s)
      by-item (item.Event d m) w p = let z : m ≡ v.next = ap (λ (o : Option Passed). step_end o 0) p in rw z at w
      by-item (item.Command c m) w p = cc
      by-item item.End w p = cc
      by-item (item.Cut k wants left) w p = cc
      by-item (item.Unknown k) w p = cc
      by-item (item.Strange k) w p = cc

-- ---- many

module _ (s : List ℕ) where
  part-steps : (d e at : ℕ) → length s ≤ at + d → length s ≤ at + e → part_from d s at ≡ part_from e s at
  unfolding part_from
  part-steps zero zero at h k = refl
  part-steps zero (suc e) at h k = rw (← (step_end_lem s at (omega arith)))
  part-steps (suc d) zero at h k = rw (← (step_end_lem s at (omega arith)))
  part-steps (suc d) (suc e) at h k = go (log_step_at s at) refl (λ m p q. part-steps d e m p q)
    where
      go : (x : Option Passed) → log_step_at s at ≡ x → ((m : ℕ) → length s ≤ m + d → length s ≤ m + e → part_from d s m ≡ part_from e s m) → part_by x at (part_from d s (step_end x at)) ≡ part_by x at (part_from e s (step_end x at))
      go (Some v) q ih = let w = step_past s at q in ap (event_before v.event) (ih v.next (omega arith) (omega arith))
      go None q ih = refl

  part_more : (at : ℕ) {e : Event} {next : ℕ} → at < length s → log_step_at s at ≡ Some (record { event = e; next = next }) → part_from (length s - at) s at ≡ event_before e (part_from (length s - next) s next)
  unfolding part_from
  part_more at {e} {next} h q =
      let w = step_past s at q in
      let k : length s - at ≡ suc (length s - (at + 1)) = omega arith in
      rw (k, q) (ap (event_before e) (part-steps (length s - (at + 1)) (length s - next) next (omega arith) (omega arith)))

  part_stop : (n at : ℕ) → None ≡ log_step_at s at → part_from n s at ≡ nothing_at at
  unfolding part_from
  part_stop zero at q = refl
  part_stop (suc n) at q = rw (← q)

-- ---- the loop over a log: what is left, billed from here, gives the whole bill

module _ (b : Bill) (s : List ℕ) where
  abbrev pub BillLeft : Bill → ℕ → Type 0
  BillLeft c at = billed_log b s ≡ record { bill = all_added c (part_from (length s - at) s at).events; next = (part_from (length s - at) s at).end }

  pub left_start : BillLeft b 0
  unfolding billed_log log_events
  left_start = let e : length s - 0 ≡ length s = omega arith in rw e

  module _ (c : Bill) (at : ℕ) {i : Item} (is : i ≡ item_at s at) (w : BillLeft c at) where
    pub left_more : {d : Bill} {e : Event} {next : ℕ} → i ≡ item.Event e next → d ≡ added_to c e → BillLeft d next
    unfolding all_added
    left_more q r = let h = event_past s at is q in w ∙ rw (part_more s at (omega arith) (step_goes s at is q), r)

    pub left_stop : ((e : Event) (next : ℕ) → i ≡ item.Event e next → ⊥) → record { bill = c; next = at } ≡ billed_log b s
    unfolding all_added
    left_stop h = sym (w ∙ rw (part_stop s (length s - at) at (step_stops s at is h)))
