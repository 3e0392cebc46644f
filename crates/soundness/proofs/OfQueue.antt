-- What `place_fine` answers for each kind of queue place.
use Rattle.words.proofs.General.{ℕ, ◌+◌, ◌*◌, add-zero, arith, ◌≡◌, refl, sym, ◌∙◌, Bool, false, not, ◌&&◌, and-true, and_comm, List, get_or, eqb, lt-leb, some, not-both}
use Rattle.model.specs.declared.Settings.{Settings}
use Rattle.model.proofs.Terms.{good_block, queue_kind_at, queue_mask_at, unsent_at_for, place_fine}
use Rattle.layout.specs.declared.Layout.{Layout}
use Rattle.layout.specs.Layout.{LaysOut}
use Rattle.layout.proofs.ByPlace.{read_from}

module _ (S : Settings) {at : Layout} (laid : LaysOut S at) (longs words marks : List ℕ) (p : ℕ) where
  abbrev address : ℕ
  address = get_or longs (at.queue + p) 0

  abbrev kind : ℕ
  kind = get_or marks (at.kinds + p) 0

  abbrev none : ℕ → Bool
  none i = eqb (queue_mask_at S words i) 0

  abbrev read : ℕ → Bool
  read i = eqb (get_or words (at.backs + i) 0) 0

  -- the four masks are 0, by place and as the code reads them
  abbrev no_mask : Bool
  no_mask = none (4 * p) && none (4 * p + 1) && none (4 * p + 2) && none (4 * p + 3)

  abbrev clean : Bool
  clean = read (4 * p) && read (4 * p + 1) && read (4 * p + 2) && read (4 * p + 3)

  clean_is : clean ≡ no_mask
  clean_is = rw laid.backs

  pub record PlaceAnswers : Type 0 where
    pub unused : kind ≡ 0 → (clean && eqb address 0) ≡ place_fine S longs words marks p
    pub reads : {r : Bool} → kind ≡ 1 → r ≡ some S.misses (unsent_at_for S longs words marks address) → (clean && r) ≡ place_fine S longs words marks p
    pub writes : kind ≡ 2 → (good_block address && not clean) ≡ place_fine S longs words marks p
    pub unknown : (kind ≡ 0 → ⊥) → (kind ≡ 1 → ⊥) → (kind ≡ 2 → ⊥) → false ≡ place_fine S longs words marks p

  kind_is : {n : ℕ} → kind ≡ n → queue_kind_at S marks p ≡ n
  kind_is e = sym (read_from laid.kinds marks p) ∙ e

  pub place-answers : PlaceAnswers
  place-answers = record {
    unused = λ e. rw (clean_is, read_from laid.queue longs p, kind_is e, add-zero) (simp and-true (and_comm no_mask _));
    reads = λ e h. rw (clean_is, h, read_from laid.queue longs p, kind_is e, add-zero) (simp and-true);
    writes = λ e. rw (clean_is, read_from laid.queue longs p, kind_is e, add-zero)
        (simp (and-true, not-both));
    unknown = λ f g h. let e = kind_is refl in rw (lt-leb (queue_kind_at S marks p) 2 (omega arith));
  }
