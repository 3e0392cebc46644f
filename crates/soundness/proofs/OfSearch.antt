-- What the searches answer: the numbers that they read at places of the layout are those of entries and queue places.
use Rattle.words.proofs.General.{ℕ, ◌+◌, ◌≡◌, sym, Bool, not, ◌&&◌, List, get_or, eqb, count_below, count_short}
use Rattle.model.proofs.Terms.{read_for}
use Rattle.model.specs.declared.Settings.{Settings}
use Rattle.layout.specs.declared.Layout.{Layout}
use Rattle.soundness.specs.Queued.{Queued}

-- entry e has tickets and the address a
abbrev pub entry_read : Layout → List ℕ → List ℕ → ℕ → ℕ → Bool
entry_read at longs marks a e = not (eqb (get_or marks (at.counts + e) 0) 0) && eqb (get_or longs (at.misses + e) 0) a

-- the same, and no sent mark
abbrev pub unsent_read : Layout → List ℕ → List ℕ → ℕ → ℕ → Bool
unsent_read at longs marks a e =
    not (eqb (get_or marks (at.counts + e) 0) 0) && eqb (get_or marks (at.sent + e) 0) 0 && eqb (get_or longs (at.misses + e) 0) a

-- queue place q has a read of the address a
abbrev pub read_read : Layout → List ℕ → List ℕ → ℕ → ℕ → Bool
read_read at longs marks a q = eqb (get_or marks (at.kinds + q) 0) 1 && eqb (get_or longs (at.queue + q) 0) a

module _ (S : Settings) (longs words marks : List ℕ) (a n : ℕ) where
  -- behind the used places stands no read
  pub read_queued_lem : Queued S marks n → count_below n (read_for S longs words marks a) ≡ count_below S.queue (read_for S longs words marks a)
  read_queued_lem q = sym (count_short (read_for S longs words marks a) S.queue n q.most (λ j h l. rw (q.behind j h l)))
