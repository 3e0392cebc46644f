-- Send: what its parts leave is what the step on the tables says.
use Rattle.words.proofs.General.{ℕ, ◌+◌, ◌*◌, ◌≤◌, ◌<◌, arith, ◌≡◌, refl, sym, ap, subst, ◌∙◌, List, length, get_or, drop, drop-cons, closed, none_of}
use native.Mathlib.Decide.{dec_le}
use Rattle.model.proofs.Terms.{is_fetch, idle, Tables, with_misses, lent, marked_for, marked, after_send, send_from, send, sent_event, encoded, Leaves, Encodes}
use Rattle.model.specs.declared.Settings.{Settings}
use Rattle.model.specs.declared.QueueKind.{QueueKind}
use Rattle.model.specs.declared.QueueKind.TheVariants as queue
use Rattle.model.specs.declared.Queued.{Queued}
use Rattle.model.specs.declared.Refusal.TheVariants.{QueueEmpty}
use Rattle.model.specs.declared.Event.{Event}
use Rattle.model.specs.declared.Event.TheVariants as event
use Rattle.model.specs.declared.Reply.{Reply}
use Rattle.model.proofs.SoundFacts.{Sound, parts, few_misses, few_queued}
use Rattle.tables.specs.Raw.{front_at}
use Rattle.layout.specs.declared.Layout.{Layout}
use Rattle.layout.specs.Layout.{LaysOut}
use Rattle.layout.specs.Places.{First}
use Rattle.tables.specs.Telling.{telling}
use Rattle.tables.proofs.Queue.{pop_stands, front-is, queue_counted}
use Rattle.layout.proofs.ByBlocks.{ByBlocks, is_stands, stands_encode}
use Rattle.tables.proofs.Misses.{address-at, sent-stands, entry_first}
use Rattle.tables.proofs.Tellings.{telling-tells, telling_tidy, refusal_leaves, done_leaves}
use Rattle.steps.specs.Parts.{HeadAsked, Marked, HeadMarked}
use Rattle.steps.proofs.Entries.{head-four, head-entry, marked-one}

-- what some place has is found
pub first-inside : {l : List ℕ} {i n x r : ℕ} → First l i n x r → (k : ℕ) × (k < n) × (get_or l (i + k) 0 ≡ x) → r < n
first-inside {l} {i} {n} {x} {r} f w = go (dec_le n r)
  where
    go : Dec (n ≤ r) → r < n
    go (yes b) = absurd (f.before w.0 (omega arith) w.2)
    go (no b) = omega arith

module _ (S : Settings) (t : Tables) {longs words marks : List ℕ} (i : Encodes S (lent longs words marks) t) {at : Layout} (p : LaysOut S at)
    {n : ℕ} (u : First marks at.kinds S.queue 0 n) where
  ok : Sound S t
  ok = parts S t i.soundly

  h : ByBlocks S longs words marks t
  h = is_stands i

  queued : n ≡ length t.queue
  queued = queue_counted S t i p u

  pub send-empty : n ≡ 0 → {r : Reply} → r ≡ telling (event.Refused QueueEmpty) → Leaves (encoded S (send t)) (lent longs words marks) r (lent longs words marks)
  unfolding send
  send-empty z e =
      rw e
      (subst (λ (q : List Queued). Leaves (encoded S (send_from q t)) (lent longs words marks) (telling (event.Refused QueueEmpty)) (lent longs words marks))
      (sym (none_of t.queue (sym queued ∙ z))) (refusal_leaves QueueEmpty (lent longs words marks)))

  module _ (not-0 : n ≡ 0 → ⊥) where
    some : 1 ≤ length t.queue
    some = let q = queued in omega arith

    abbrev head : Queued
    head = get_or t.queue 0 idle

    module _ {x : Queued} (front : x ≡ front_at longs at.queue words at.backs marks at.kinds) where
      is_head : x ≡ head
      is_head = front ∙ front-is S t h p (few_queued S t ok) some (head-four S t ok some)

      kind_is : x.kind ≡ head.kind
      kind_is = ap (λ (y : Queued). y.kind) is_head

      address_is : x.address ≡ head.address
      address_is = ap (λ (y : Queued). y.address) is_head

      pub send-asked : HeadAsked at S.misses longs x
      send-asked e =
          let (k, b, q) = head-entry S t ok some (ap is_fetch (sym kind_is ∙ e)) in
          (k, omega (arith, few_misses S t ok), address-at S t h p (few_misses S t ok) k b ∙ q ∙ sym address_is)

      module _ {marks₁ : List ℕ} (m : HeadMarked at S.misses longs x marks marks₁) where
        marked-stands : (k : QueueKind) → head.kind ≡ k → ByBlocks S longs words marks₁ (with_misses (marked_for k head.address t.misses) t)
        marked-stands queue.Read e =
            let few = few_misses S t ok in
            let d : Marked at S.misses longs x.address marks marks₁ = m.reads (kind_is ∙ e) in
            let (k, b, q) = head-entry S t ok some (ap is_fetch e) in
            let g = entry_first S t h p few d.first d.inside k b (q ∙ sym address_is) in
            rw (marked-one S t ok head.address d.entry g.0 (g.1 ∙ address_is)) (sent-stands S t h p few d.entry g.0 d.marks_are)
        marked-stands queue.WriteBack e =
            subst (λ (l : List ℕ). ByBlocks S longs words l t) (sym (m.other (λ one. let z : queue.WriteBack ≡ queue.Read = sym (kind_is ∙ e) ∙ one in cc))) h

        pub send-leaves : {longs₁ words₁ marks₂ : List ℕ} {first : Event} {r : Reply}
            → (longs₁ ≡ closed longs at.queue n 1) × (words₁ ≡ closed words at.backs (4 * n) 4) × (marks₂ ≡ closed marks₁ at.kinds n 1)
            → first ≡ sent_event x → r ≡ telling first
            → Leaves (encoded S (send t)) (lent longs words marks) r (lent longs₁ words₁ marks₂)
        unfolding send
        send-leaves c f e =
            let reply = e ∙ ap telling (f ∙ ap sent_event is_head) in
            let popped = pop_stands S (with_misses (marked head t.misses) t) (marked-stands head.kind refl) p (few_queued S t ok) n some (omega (arith, queued)) u.most c in
            done_leaves S {t = after_send head (drop 1 t.queue) t} (ap (λ (q : List Queued). send_from q t) (drop-cons t.queue 0 idle some))
            (rw reply (telling-tells (sent_event head))) (rw reply (telling_tidy (sent_event head))) (stands_encode popped)
