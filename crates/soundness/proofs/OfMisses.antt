-- What the functions of the miss table answer, of what their callees ensure.
use Rattle.words.proofs.General.{ℕ, ◌+◌, ◌*◌, ◌/◌, ◌%◌, ◌≤◌, ◌<◌, div-lt_iff_lt-mul, mul_comm, arith, ◌≡◌, sym, ◌∙◌, Bool, true, not, ◌&&◌, and-true, and_assoc, List, get_or, eqb}
use Rattle.words.proofs.General.{leb, eqb-true, eq-eqb, ne_eqb, le-leb, some, count_below, and_2, not_but, some_same}
use Rattle.model.specs.declared.Settings.{Settings}
use Rattle.model.proofs.Terms.{block_of, sector_index, set_index, tag_at, status_at, miss_at, sent_at, ticket_count_at, ticket_at, lines_fine, entry_at_for, read_for, reserved_for, ticket_fine}
use Rattle.model.proofs.Terms.{entry_fine}
use Rattle.layout.specs.declared.Layout.{Layout}
use Rattle.layout.specs.Layout.{LaysOut}
use Rattle.layout.proofs.ByPlace.{read_from}
use Rattle.soundness.proofs.Tests.{and_implied}
use Rattle.soundness.proofs.FineLines.{reserved_short, own-set-reserves}

-- the entry of a ticket place
pub entry_below : (S : Settings) (i : ℕ) → 1 ≤ S.readers → i < S.readers * S.misses → i / S.readers < S.misses
entry_below S i pos h = (div-lt_iff_lt-mul pos).1 (rw mul_comm at h)

-- an unused entry's sent mark is 0, so it is at most 1
unused_shape : (w m : ℕ) (a : Bool) → (a && eqb m 0) ≡ (leb 0 w && leb m 1 && (a && eqb m 0) && true && true && true)
unused_shape w m a = simp (le-leb 0 w (omega arith), and-true) (and_implied (λ e. let z = eqb-true m 0 (and_2 a _ e) in le-leb m 1 (omega arith)))

used_shape : (few mark even held alone asked : Bool) → (few && mark && even && held && alone && asked) ≡ (few && mark && true && (even && held) && alone && asked)
used_shape few mark even held alone asked = simp (and-true, and_assoc)

module _ (S : Settings) (longs words marks : List ℕ) where
  pub ticket_kept : {at : Layout} → LaysOut S at → (i : ℕ)
      → not (leb (get_or marks (at.counts + i / S.readers) 0) (i % S.readers) && not (eqb (get_or words (at.tickets + i) 0) 0)) ≡ ticket_fine S longs words marks i
  ticket_kept p i =
      rw (read_from p.counts marks (i / S.readers), read_from p.tickets words i)
      (not_but (leb (ticket_count_at S marks (i / S.readers)) (i % S.readers)) (eqb (ticket_at S words i) 0))

  -- the lines of a set, asked for a block and a sector
  pub set_asked : (a k block sector : ℕ) → block ≡ block_of a → sector ≡ sector_index a → k ≡ set_index S a
      → some S.ways (λ w. eqb (tag_at longs (k * S.ways + w)) block && eqb (status_at marks (4 * (k * S.ways + w) + sector)) 1)
      ≡ some S.ways (λ w. reserved_for S longs words marks a (set_index S a * S.ways + w))
  set_asked a k block sector b s e =
      rw (b, s, e) (some_same _ _ S.ways (λ w h. reserved_short S longs words marks a (set_index S a * S.ways + w)))

  module _ (e k m a : ℕ) (count : k ≡ ticket_count_at S marks e) (mark : m ≡ sent_at S marks e) (address : a ≡ miss_at S longs e) where
    pub unused-entry : k ≡ 0 → (eqb a 0 && eqb m 0) ≡ entry_fine S longs words marks e
    unused-entry z =
        let q : ticket_count_at S marks e ≡ 0 = sym count ∙ z in
        rw (address, mark, q) (unused_shape S.readers (sent_at S marks e) (eqb (miss_at S longs e) 0))

    module _ (fine : lines_fine S longs words marks ≡ true) (sets : 1 ≤ S.sets) (ways : 1 ≤ S.ways) (used : k ≡ 0 → ⊥) (held other : Bool)
        (holds : held ≡ some S.ways (λ w. reserved_for S longs words marks a (set_index S a * S.ways + w)))
        (others : other ≡ some e (entry_at_for S longs words marks a)) where
      abbrev named : Bool
      named = leb k S.readers && leb m 1 && eqb (a % 32) 0 && held && not other

      pub sent_entry : (m ≡ 0 → ⊥) → named ≡ entry_fine S longs words marks e
      sent_entry f =
          rw (← count, ← mark, ← address, own-set-reserves S longs words marks fine a sets ways, ← holds, ← others, ne_eqb k 0 used, ne_eqb m 0 f)
          (sym (and-true named) ∙ used_shape (leb k S.readers) (leb m 1) (eqb (a % 32) 0) held (not other) true)

      pub unsent-entry : (n : ℕ) → m ≡ 0 → n ≡ count_below S.queue (read_for S longs words marks a) → (named && eqb n 1) ≡ entry_fine S longs words marks e
      unsent-entry n z r =
          rw (← count, ← mark, ← address, own-set-reserves S longs words marks fine a sets ways, ← holds, ← others, ← r, ne_eqb k 0 used, eq-eqb m 0 z)
          (used_shape (leb k S.readers) (leb m 1) (eqb (a % 32) 0) held (not other) (eqb n 1))
