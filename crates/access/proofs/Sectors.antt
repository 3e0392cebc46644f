-- What an access makes of its own sector, of the four of a line that it takes over, and of whether a line that is there is dirty.
use Rattle.words.proofs.General.{ℕ, zero, suc, ◌+◌, ◌*◌, ◌≡◌, refl, sym, ap, subst, ◌∙◌, ⊎_elim, Bool, true, false, true≢false, false≢true, List, [], ◌∷◌, get_or, set, replicate}
use Rattle.words.proofs.General.{get_or-replicate, pick, flag, clash, in-any, in_set-same}
use Rattle.model.proofs.Terms.{address_of, is_read, mask_of, sector_index, is_invalid, is_modified, empty, sector_at, sectors_at, is_merge, is_miss, on_sector}
use Rattle.model.specs.declared.Settings.{Settings}
use Rattle.model.specs.declared.Access.{Access}
use Rattle.model.specs.declared.Access.TheVariants.{Read, Write}
use Rattle.model.specs.declared.Answer.{Answer}
use Rattle.model.specs.declared.Sector.{Sector}
use Rattle.model.specs.declared.Status.{Status}
use Rattle.model.specs.declared.Status.TheVariants.{Invalid, Reserved}
use Rattle.model.proofs.Answers.{by_status}
use Rattle.model.proofs.SoundFacts.{sector_below}
use Rattle.layout.specs.declared.Layout.{Layout}
use Rattle.layout.specs.Sectors.{some_modified}
use Rattle.layout.proofs.OneOfFour.{sector_of_four}
use Rattle.tables.specs.Raw.{dirty_at}
use Rattle.tables.specs.Changed.{Changed}
use Rattle.tables.proofs.Changing.{changed_as}
use Rattle.tables.proofs.Statuses.{dirty-bytes}
use Rattle.probe.specs.declared.Decision.{Decision}
use Rattle.access.specs.Written.{sectors_after, SectorLeft}

-- what the two kinds make of a sector
pub sector-read : (x : Access) (n : Answer) {s o y : Sector} → is_read x ≡ true
    → y ≡ pick (is_miss n) record { status = Reserved; mask = s.mask; readable = true } s → s ≡ o → y ≡ on_sector x n o
sector-read (Read a m k) n e f g = f ∙ ap (on_sector (Read a m k) n) g
sector-read (Write a m k) n e f g = absurd (false≢true e)

pub sector-written : (x : Access) (n : Answer) (s : Sector) → is_read x ≡ false → on_sector (Write 0 (mask_of x) 0) n s ≡ on_sector x n s
sector-written (Read a m k) n s e = absurd (true≢false e)
sector-written (Write a m k) n s e = refl

-- the sectors of a line that was just taken over
pub taken_left : (x : Access) (d : Decision) {own : Sector} {four : List Sector} → own ≡ on_sector x d.answer empty → four ≡ set (replicate 4 empty) (sector_index (address_of x)) own
    → four ≡ sectors_after x d (replicate 4 empty)
taken_left x d e f = f ∙ rw (e, get_or-replicate 4 (sector_index (address_of x)) empty empty (sector_below (address_of x)))

-- ---- whether a line of which one sector changes is dirty

-- as it was, if the new sector is MODIFIED where the old one was
dirt_stays : (four : List Sector) (k : ℕ) (y : Sector) → is_modified y.status ≡ is_modified (get_or four k empty).status → some_modified (set four k y) ≡ some_modified four
dirt_stays [] k y e = refl
dirt_stays (s ∷ four) zero y e = rw e
dirt_stays (s ∷ four) (suc k) y e = rw (dirt_stays four k y e)

only_invalid : (s : Status) → is_invalid s ≡ true → s ≡ Invalid
only_invalid = by_status (λ s. is_invalid s ≡ true → s ≡ Invalid) (λ e. refl) (λ e. clash e refl) (λ e. clash e refl) (λ e. clash e refl)

-- an INVALID sector by a read
fetched-clean : (x : Access) (n : Answer) (s : Sector) → is_read x ≡ true → is_invalid s.status ≡ true → is_modified (on_sector x n s).status ≡ is_modified s.status
fetched-clean (Read a m k) n s reads e = let was : s.status ≡ Invalid = only_invalid s.status e in rw was (⊎_elim (λ q. rw q) (λ q. rw q) (flag (is_miss n)))
fetched-clean (Write a m k) n s reads e = absurd (false≢true reads)

-- y is what the access makes of its own sector o of line l
module _ (S : Settings) (words marks : List ℕ) (x : Access) (n : Answer) (l : ℕ) {o y : Sector} (own : o ≡ sector_at S words marks (4 * l + sector_index (address_of x))) (made : y ≡ on_sector x n o) where
  abbrev k : ℕ
  k = sector_index (address_of x)

  abbrev four : List Sector
  four = sectors_at S words marks l

  -- read off the bytes of the line: it is as dirty as it was
  stays_so : is_modified (on_sector x n o).status ≡ is_modified o.status → dirty_at marks l ≡ some_modified (set four k y)
  stays_so e =
      sym (dirty-bytes S [] words marks l)
      ∙ sym (dirt_stays four k y (ap (λ (s : Sector). is_modified s.status) made ∙ e ∙ ap (λ (s : Sector). is_modified s.status) (own ∙ sym (sector_of_four S words marks l k empty (sector_below (address_of x))))))

  pub fetched_stays : {b : Bool} → b ≡ dirty_at marks l → is_read x ≡ true → is_invalid o.status ≡ true → b ≡ some_modified (set four k y)
  fetched_stays was reads e = was ∙ stays_so (fetched-clean x n o reads e)

  pub merged_stays : {b : Bool} → b ≡ dirty_at marks l → is_read x ≡ false → is_merge n ≡ true → b ≡ some_modified (set four k y)
  merged_stays was writes e = was ∙ stays_so (rw (← sector-written x n o writes, e))

  pub written-dirty : is_read x ≡ false → is_merge n ≡ false → true ≡ some_modified (set four k y)
  written-dirty writes e =
      sym (in-any (λ (s : Sector). is_modified s.status) (set four k y) (in_set-same four k y (sector_below (address_of x)))
      (ap (λ (s : Sector). is_modified s.status) made ∙ rw (← sector-written x n o writes, e)))

  -- what `change` promises of the sector and the count that the code knows
  pub sector_left : (at : Layout) {j a : ℕ} {is : Bool} {words' marks' : List ℕ} → a ≡ address_of x → j ≡ sector_index a → is ≡ some_modified (set four k y)
      → Changed S at l j y is words marks words' marks' → SectorLeft S at x n l words marks words' marks'
  sector_left at {j} {a} {is} {words'} {marks'} e f g c =
      let z : y ≡ on_sector x n (sector_at S words marks (4 * l + k)) = made ∙ ap (on_sector x n) own in
      subst (λ (b : Bool). Changed S at l k (on_sector x n (sector_at S words marks (4 * l + k))) b words marks words' marks') (g ∙ ap (λ (v : Sector). some_modified (set four k v)) z)
      (changed_as S at l is words marks (f ∙ ap sector_index e) z c)
