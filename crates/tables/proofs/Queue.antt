-- The queue's leaves on the slices of tables: how many places are used, the head, what a pop and a push leave.
use Rattle.words.proofs.General.{ℕ, ◌+◌, ◌*◌, ◌≤◌, ◌<◌, arith, ◌≡◌, refl, sym, ap, ◌∙◌, List, [], ◌∷◌, ◌++◌, length, get_or, drop, pad_to, put, closed, offset_in, four_whole}
use Rattle.words.proofs.General.{length_places, field_get, pad_to_get, field_push, field_close_first}
use Rattle.model.proofs.Terms.{queue_kind_number, queue_kind_of, idle, Tables, with_queue, long_blocks, word_blocks, mark_blocks, queued_of, queue_masks_of, kind_of, lent, Encodes}
use Rattle.model.specs.declared.Settings.{Settings}
use Rattle.model.specs.declared.Queued.{Queued}
use Rattle.encoding.proofs.NumbersAreTables.{kind_some, kind_back, queued_back}
use Rattle.tables.specs.Raw.{front_at}
use Rattle.layout.specs.declared.Layout.{Layout}
use Rattle.layout.specs.Layout.{LaysOut}
use Rattle.layout.specs.Places.{First}
use Rattle.tables.proofs.Ones.{dropped-first}
use Rattle.layout.proofs.ByBlocks.{ByBlocks, is_stands}
use Rattle.layout.proofs.Grown.{field_used}
use Rattle.model.proofs.SoundFacts.{parts, few_queued}

kind_used : (x : Queued) → get_or (pad_to 1 (kind_of x)) 0 0 ≡ 0 → ⊥
unfolding pad_to
kind_used x = kind_some x.kind

-- a queue's entry, read off its numbers
front_of : (x : Queued) → length x.masks ≡ 4 → {k a m0 m1 m2 m3 : ℕ} → k ≡ queue_kind_number x.kind → a ≡ x.address
    → m0 ≡ get_or x.masks 0 0 → m1 ≡ get_or x.masks 1 0 → m2 ≡ get_or x.masks 2 0 → m3 ≡ get_or x.masks 3 0
    → record { kind = queue_kind_of k; address = a; masks = m0 ∷ m1 ∷ m2 ∷ m3 ∷ [] } ≡ x
front_of x four e f g0 g1 g2 g3 = queued_back x (ap queue_kind_of e ∙ kind_back x.kind) f (rw (g0, g1, g2, g3) (four_whole 0 x.masks four))

module _ (S : Settings) (t : Tables) {longs words marks : List ℕ} (h : ByBlocks S longs words marks t) {at : Layout} (p : LaysOut S at) (few : length t.queue ≤ S.queue) where
  pub queue_used : {r : ℕ} → First marks at.kinds S.queue 0 r → r ≡ length t.queue
  queue_used f =
      field_used kind_of S.queue t.queue (mark_blocks S t) 4 {i = at.kinds} h.as_marks refl (simp length_places (omega arith)) (omega arith) few idle
      (λ k below. kind_used (get_or t.queue k idle)) f

  -- the first m places close up
  pub pop_stands : (m : ℕ) → 1 ≤ length t.queue → length t.queue ≤ m → m ≤ S.queue → {longs' words' marks' : List ℕ}
      → (longs' ≡ closed longs at.queue m 1) × (words' ≡ closed words at.backs (4 * m) 4) × (marks' ≡ closed marks at.kinds m 1)
      → ByBlocks S longs' words' marks' (with_queue (drop 1 t.queue) t)
  pop_stands m some f g c =
      rw (sym (dropped-first t.queue)) record {
        as_longs = field_close_first queued_of 1 S.queue t.queue (long_blocks S t) 2 h.as_longs refl (omega arith) few m 0 (simp length_places (omega arith)) some f g (omega arith) c.0;
        as_words = field_close_first queue_masks_of 4 S.queue t.queue (word_blocks S t) 4 h.as_words refl (omega arith) few m 0 (simp length_places (omega arith)) some f g (omega arith) c.1;
        as_marks = field_close_first kind_of 1 S.queue t.queue (mark_blocks S t) 4 h.as_marks refl (omega arith) few m 0 (simp length_places (omega arith)) some f g (omega arith) c.2;
      }

  -- an entry at the first free place
  pub push_stands : (x : Queued) (n : ℕ) → length x.masks ≡ 4 → n ≡ length t.queue → n < S.queue → {longs' words' marks' : List ℕ}
      → (longs' ≡ put longs (at.queue + n) (x.address ∷ [])) × (words' ≡ put words (at.backs + 4 * n) x.masks)
      × (marks' ≡ put marks (at.kinds + n) (queue_kind_number x.kind ∷ []))
      → ByBlocks S longs' words' marks' (with_queue (t.queue ++ (x ∷ [])) t)
  push_stands x n four e room c = record {
    as_longs = field_push queued_of 1 S.queue t.queue (long_blocks S t) 2 h.as_longs refl (omega arith) few (simp length_places (omega arith)) (omega arith) x refl (omega arith) c.0;
    as_words = field_push queue_masks_of 4 S.queue t.queue (word_blocks S t) 4 h.as_words refl (omega arith) few (simp length_places (omega arith)) (omega arith) x refl (omega arith) c.1;
    as_marks = field_push kind_of 1 S.queue t.queue (mark_blocks S t) 4 h.as_marks refl (omega arith) few (simp length_places (omega arith)) (omega arith) x refl (omega arith) c.2;
  }

  -- ---- the head

  module _ (some : 1 ≤ length t.queue) where
    pub head-kind : get_or marks at.kinds 0 ≡ queue_kind_number (get_or t.queue 0 idle).kind
    unfolding pad_to
    head-kind =
        field_get kind_of 1 S.queue t.queue (mark_blocks S t) 4 0 {i = at.kinds} h.as_marks refl (simp length_places (omega arith)) (omega arith) some few idle 0 (omega arith) (omega arith)

    pub head-address : get_or longs at.queue 0 ≡ (get_or t.queue 0 idle).address
    unfolding pad_to
    head-address =
        field_get queued_of 1 S.queue t.queue (long_blocks S t) 2 0 {i = at.queue} h.as_longs refl (simp length_places (omega arith)) (omega arith) some few idle 0 (omega arith) (omega arith)

    head-mask : (j q : ℕ) → j < 4 → q ≡ at.backs + j → get_or words q 0 ≡ get_or (get_or t.queue 0 idle).masks j 0
    head-mask j q b f =
        let start : at.backs ≡ offset_in (word_blocks S t) 4 + 4 * 0 = simp length_places (omega arith) in
        field_get queue_masks_of 4 S.queue t.queue (word_blocks S t) 4 0 {i = at.backs} h.as_words refl start (omega arith) some few idle j b f
        ∙ pad_to_get 4 (get_or t.queue 0 idle).masks j b

    pub front-is : length (get_or t.queue 0 idle).masks ≡ 4 → front_at longs at.queue words at.backs marks at.kinds ≡ get_or t.queue 0 idle
    front-is four =
        front_of (get_or t.queue 0 idle) four head-kind head-address
        (head-mask 0 at.backs (omega arith) (omega arith)) (head-mask 1 (at.backs + 1) (omega arith) refl) (head-mask 2 (at.backs + 2) (omega arith) refl) (head-mask 3 (at.backs + 3) (omega arith) refl)

-- how many places are in use, of slices that hold sound tables
pub queue_counted : (S : Settings) {longs words marks : List ℕ} (t : Tables) → Encodes S (lent longs words marks) t → {at : Layout} → LaysOut S at
    → {n : ℕ} → First marks at.kinds S.queue 0 n → n ≡ length t.queue
queue_counted S t i p u = queue_used S t (is_stands i) p (few_queued S t (parts S t i.soundly)) u
