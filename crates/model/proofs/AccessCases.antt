-- An access is refused, or accepted at a spot (`access_judged`): of sound tables the line itself, with nothing written back, or a victim
-- with its write-back (`access-cases`). These are the laws by which the proofs above look at an access, under any rules; which victim is
-- chosen is left open. So an access leaves sound tables sound.
use Rattle.std.specs.Prelude.{Some, None}
use Rattle.words.proofs.General.{ℕ, ◌+◌, ◌≤◌, ◌≡◌, refl, sym, ap, ◌∙◌, true, false, not, ◌&&◌, List, [], length, get_or, replicate, ltb, leb, any, and_1, not_yes, by_flag, in_get_or}
use Rattle.words.proofs.General.{get_or-same}
use Rattle.model.proofs.Terms.{in_range, address_of, mask_of, is_read, block_of, well_formed, Line, Tables, Outcome, refused, has_reserved, holds, empty, fresh, all_ones, ways_of}
use Rattle.model.proofs.Terms.{enough_dirty, candidate, Rule, Rules, Spot, Place, no, at, write_back, probe, met_under, is_merge, is_miss, places_needed, entry_full, accept}
use Rattle.model.proofs.Terms.{proceed, access_under}
use Rattle.model.specs.declared.Settings.{Settings}
use Rattle.model.specs.declared.Access.{Access}
use Rattle.model.specs.declared.Refusal.{Refusal}
use Rattle.model.specs.declared.Refusal.TheVariants.{BadAccess, QueueFull, EntryFull, MissTableFull}
use Rattle.model.proofs.SoundFacts.{Sound, LeavesSound}
use Rattle.model.proofs.Ways.{Finds, first_finds, victim_finds, probe_by, Sits, way_sits}
use Rattle.model.proofs.AccessKeepsSound.{Spotted, spot_number, taken-sound}
use Rattle.model.proofs.ProbeFindsSpot.{rule_spotted}
use Rattle.model.proofs.Fits.{ranged}

-- ---- what a spot is in the tables

-- the line where the spot is
abbrev pub line_there : Settings → Tables → Access → Spot → Line
line_there S t x p = get_or t.lines (spot_number S x p) fresh

pub data Stands (S : Settings) (t : Tables) (x : Access) (p : Spot) : Type 0 where
  -- it holds the block: it is met as it is, and nothing is written back
  found : p.line ≡ line_there S t x p → p.backs ≡ [] → Stands S t x p
  -- it doesn't, and no sector of it is RESERVED: it is written back, and its line is met with no byte marked
  taken : holds (block_of (address_of x)) (line_there S t x p) ≡ false → has_reserved (line_there S t x p) ≡ false
      → p.backs ≡ write_back (line_there S t x p) → ((k : ℕ) → (get_or p.line.sectors k empty).mask ≡ 0)
      → Stands S t x p

-- an access that meets the spot p under the rules R, to which none of refusals 4 to 9 applies
pub record Judged (R : Rules) (S : Settings) (t : Tables) (x : Access) (p : Spot) : Type 0 where
  pub formed : well_formed x ≡ true
  pub met : met_under R S x t ≡ at p
  pub roomy : ltb S.queue (length t.queue + places_needed x p) ≡ false
  pub joins : (is_read x && is_merge p.answer && any (entry_full S (address_of x)) t.misses) ≡ false
  pub enters : (is_read x && is_miss p.answer && leb S.misses (length t.misses)) ≡ false

-- and what the spot is in sound tables
pub record Accepted (R : Rules) (S : Settings) (t : Tables) (x : Access) (p : Spot) : Type 0 where
  pub judged : Judged R S t x p
  pub spotted : Spotted S t x p
  pub stands : Stands S t x p

pub empty-masks : (n k : ℕ) → (get_or (replicate n empty) k empty).mask ≡ 0
empty-masks n k = rw (get_or-same n k empty)

-- ---- an access

module _ (S : Settings) (t : Tables) (x : Access) where
  abbrev ways : List Line
  ways = ways_of S t.lines (address_of x)

  -- all that is asked of a rule: the victim is a way of the set, and no sector of it is RESERVED
  rule_stands : (R : Rule) (p : Spot) → probe R S t.dirty_count ways x ≡ at p → Stands S t x p
  rule_stands R =
      let b : ℕ = block_of (address_of x) in
      probe_by R S t.dirty_count ways x (Stands S t x)
      (λ w f. let h : Finds (holds b) ways (Some w) = rw f at (first_finds (holds b) ways) in found (way_sits S t.lines (address_of x) w h.0).line refl)
      (λ f w v.
      let none : Finds (holds b) ways None = rw f at (first_finds (holds b) ways) in
      let h : Finds (candidate (enough_dirty S t.dirty_count)) ways (Some w) = rw v at (victim_finds R S t.dirty_count ways) in
      let s : Sits S t.lines (address_of x) w = way_sits S t.lines (address_of x) w h.0 in
      taken (ap (holds b) (sym s.line) ∙ none (get_or ways w fresh) (in_get_or ways w fresh h.0))
      (ap has_reserved (sym s.line) ∙ not_yes (and_1 (not (has_reserved (get_or ways w fresh))) _ h.1)) (ap write_back s.line) (empty-masks 4))

module _ (R : Rules) (S : Settings) (t : Tables) (x : Access) where
  -- of any tables
  pub access_judged : (P : Outcome Tables → Type 0) → ((n : Refusal) → P (refused n)) → ((p : Spot) → Judged R S t x p → P (accept S x p t))
      → P (access_under R S x t)
  unfolding proceed
  access_judged P no_call made =
      by_flag P (well_formed x) _ (refused BadAccess) (λ f. go f (probe (R t (address_of x)) S t.dirty_count (ways S t x) x) refl) (λ f. no_call BadAccess)
    where
      go : well_formed x ≡ true → (q : Place) → probe (R t (address_of x)) S t.dirty_count (ways S t x) x ≡ q → P (proceed S x t q)
      go f (no n) e = no_call n
      go f (at p) e =
          by_flag P (ltb S.queue (length t.queue + places_needed x p)) (refused QueueFull) _ (λ z. no_call QueueFull)
          (λ roomy. by_flag P (is_read x && is_merge p.answer && any (entry_full S (address_of x)) t.misses) (refused EntryFull) _ (λ z. no_call EntryFull)
          (λ joins. by_flag P (is_read x && is_miss p.answer && leb S.misses (length t.misses)) (refused MissTableFull) _ (λ z. no_call MissTableFull)
          (λ enters. made p record { formed = f; met = e; roomy = roomy; joins = joins; enters = enters })))

  -- of sound ones
  module _ (range : in_range S ≡ true) (ok : Sound S t) where
    pub access-cases : (P : Outcome Tables → Type 0) → ((n : Refusal) → P (refused n)) → ((p : Spot) → Accepted R S t x p → P (accept S x p t))
        → P (access_under R S x t)
    access-cases P no_call made =
        access_judged P no_call (λ p j. made p record {
          judged = j;
          spotted = rule_spotted S range t ok x (R t (address_of x)) p j.met;
          stands = rule_stands S t x (R t (address_of x)) p j.met;
        })

    pub access-leaves : mask_of x ≤ all_ones → LeavesSound S (access_under R S x t)
    unfolding accept
    access-leaves small =
        access-cases (LeavesSound S) (λ n. tt) (λ p a. let j = a.judged in
        taken-sound S t ok x j.formed small p a.spotted (ranged S range).reader j.joins j.enters j.roomy range)
