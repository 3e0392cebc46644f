-- The queue's head and its free places; the dirty lines; the check before a reason.
use Rattle.std.specs.Prelude.{Ok, Err}
use Rattle.words.proofs.General.{ℕ, ◌-◌, ◌≤◌, pos_of_ne-zero, arith, ◌≡◌, refl, sym, ap, subst, ◌∙◌, List, [], ◌∷◌, length, get_or}
use Rattle.model.proofs.Terms.{lines_of, idle, Tables, Outcome, refused, done, Lent, lent, tables_of, sent_event, check_call, verdict_of, Encodes}
use Rattle.model.specs.declared.Settings.{Settings}
use Rattle.model.specs.declared.Queued.{Queued}
use Rattle.model.specs.declared.Access.{Access}
use Rattle.model.specs.declared.Event.{Event}
use Rattle.model.specs.declared.Refusal.{Refusal}
use Rattle.model.proofs.SoundFacts.{parts, few_queued}
use Rattle.encoding.proofs.DecodeIsSound.{Small}
use Rattle.soundness.specs.Laid.{Checks}
use Rattle.std.specs.Prelude.{Result, Ok, Err}
use Rattle.layout.specs.declared.geometry.Geometry.{Geometry}
use Rattle.soundness.proofs.Checked.{says_refused, says_passed, passed-tables}
use Rattle.layout.specs.declared.Layout.{Layout}
use Rattle.layout.specs.Layout.{LaysOut}
use Rattle.layout.specs.Places.{First}
use Rattle.tables.specs.Raw.{front_at}
use Rattle.layout.proofs.ByBlocks.{is_stands}
use Rattle.tables.proofs.Queue.{front-is, queue_counted}
use Rattle.steps.proofs.Entries.{head-four}
use Rattle.layout.proofs.DirtyCount.{dirty_count_at_lem}
use Rattle.reasons.specs.declared.Reason.{Reason}
use Rattle.reasons.specs.declared.Reason.TheVariants as reason
use Rattle.reasons.specs.Reasons.{lines_reason, missing_lines, queue_reason, reason_for, reason_checked, reason_call}
use Rattle.reasons.specs.Parts.{Gives}

-- ---- the queue

head_told : (places : ℕ) (qs : List Queued) → 1 ≤ length qs → queue_reason places qs ≡ reason.Queue (sent_event (get_or qs 0 idle)) (places - length qs)
head_told places [] h = absurd (omega arith)
head_told places (q ∷ qs) h = refl

none_told : (places : ℕ) (qs : List Queued) → length qs ≡ 0 → queue_reason places qs ≡ reason.Nothing
none_told places [] h = refl
none_told places (q ∷ qs) h = absurd (omega arith)

module _ (S : Settings) {longs words marks : List ℕ} (t : Tables) (i : Encodes S (lent longs words marks) t) {at : Layout} (p : LaysOut S at)
    {n : ℕ} (u : First marks at.kinds S.queue 0 n) where
  short : length t.queue ≤ S.queue
  short = few_queued S t (parts S t i.soundly)

  queued : n ≡ length t.queue
  queued = queue_counted S t i p u

  pub queue_empty : n ≡ 0 → reason.Nothing ≡ queue_reason S.queue t.queue
  queue_empty e = sym (none_told S.queue t.queue (sym queued ∙ e))

  pub head_shown : (n ≡ 0 → ⊥) → {x : Queued} → x ≡ front_at longs at.queue words at.backs marks at.kinds → {h : Event} → h ≡ sent_event x
      → reason.Queue h (S.queue - n) ≡ queue_reason S.queue t.queue
  head_shown e front is =
      let all = queued in
      let some : 1 ≤ length t.queue = pos_of_ne-zero (λ z. e (all ∙ z)) in
      let head = is ∙ ap sent_event (front ∙ front-is S t (is_stands i) p short some (head-four S t (parts S t i.soundly) some)) in
      rw (head, all) (sym (head_told S.queue t.queue some))

-- ---- the dirty lines

module _ (S : Settings) {longs words marks : List ℕ} (t : Tables) (i : Encodes S (lent longs words marks) t) {at : Layout} (p : LaysOut S at) where
  pub lines_shown : {d m : ℕ} → d ≡ get_or words at.dirty 0 → m ≡ missing_lines S.dirty (lines_of S) d
      → reason.Lines m d (lines_of S) S.dirty ≡ lines_reason S t.dirty_count
  lines_shown {d} f e = let same : d ≡ t.dirty_count = f ∙ dirty_count_at_lem S t (is_stands i) p in rw (e, same)

-- ---- the check

checked_refused : (S : Settings) (x : Access) (n : Refusal) (L : Lent) (o : Outcome Lent) (k : Refusal) → verdict_of o ≡ Err k
    → reason_checked S x n L o ≡ Err k
checked_refused S x n L (refused j) k e = cc
checked_refused S x n L (done es M) k e = let z : ◌≡◌ {A = ℕ} 0 1 = cc in absurd (omega arith)

checked-passed : (S : Settings) (x : Access) (n : Refusal) (L : Lent) (o : Outcome Lent) → verdict_of o ≡ Ok tt
    → reason_checked S x n L o ≡ Ok (reason_for S x (tables_of S L) n)
checked-passed S x n L (refused j) e = let z : ◌≡◌ {A = ℕ} 0 1 = cc in absurd (omega arith)
checked-passed S x n L (done es M) e = refl

module _ (S : Settings) (x : Access) (n : Refusal) (L : Lent) {v : Result Geometry Refusal} (checks : Checks S L v) where
  pub reason_refused : {k : Refusal} → v ≡ Err k → Err k ≡ reason_call S x n L
  unfolding reason_call
  reason_refused {k} e = sym (checked_refused S x n L (check_call S L) k (says_refused S L checks e))

  -- the reason is told by the settings that the geometry holds
  pub reason_passed : Small L → {g : Geometry} → v ≡ Ok g → {r : Reason} → Gives g.settings (λ t. reason_for g.settings x t n) L r → Ok r ≡ reason_call S x n L
  unfolding reason_call
  reason_passed small passed {r} g =
      let own : Gives S (λ t. reason_for S x t n) L r = subst (λ s. Gives s (λ t. reason_for s x t n) L r) (checks.own _ passed) g in
      ap Ok (own.on (tables_of S L) (passed-tables S L checks small passed)) ∙ sym (checked-passed S x n L (check_call S L) (says_passed S L checks passed))
