-- Demand 3 of `run_rounds` and `run_struck`, made of the calls of `cache`. Each hypothesis on what they return and leave is what the
-- function ensures, word for word; that the run ran is all that is asked of settings, tables, access and room.
use Rattle.std.specs.Prelude.{Result, Ok}
use Rattle.words.proofs.General.{ℕ, zero, suc, ◌+◌, ◌-◌, ◌/◌, ◌≤◌, arith, ◌≡◌, refl, sym, ap, subst, ◌∙◌, ⊎_elim, inl, inr, Bool, true, false, ◌&&◌, false≢true, List, [], ◌∷◌}
use Rattle.words.proofs.General.{◌++◌, map, map-append, length, take, drop, replicate, length-map, length-append, length-replicate, take_at, leb, le-leb, any, flag}
use Rattle.model.proofs.Terms.{well_formed, Outcome, refused, done, Lent, bit, check_call, verdict_of, log_bytes, round_bytes, Turn, SeenCalls, accepts, Course, marks, rounds, struck, held_in}
use Rattle.model.proofs.Terms.{waits, seen_calls, Demand3}
use Rattle.model.specs.declared.Settings.{Settings}
use Rattle.model.specs.declared.Access.{Access}
use Rattle.model.specs.declared.Event.{Event}
use Rattle.encoding.proofs.DecodeIsSound.{Small}
use Rattle.encoding.proofs.Demand.{demand_3_seen_lent}
use Rattle.soundness.proofs.Verdicts.{passed_is}
use Rattle.rounds.specs.declared.Went.{Went}
use Rattle.rounds.specs.declared.NotRun.{NotRun}
use Rattle.rounds.specs.Demand3.{RoundsShown, rounds_shown, ran_to, room_for, flags_marked, formed, start_call, rounds_checked, rounds_call, flags_call, struck_call, SameRuns, InTime, HeldOn, Settled}
use Rattle.rounds.proofs.Longer.{offers_few, longer, marks_accepted, marks_held, offers_first}

abbrev went_as : ℕ → ℕ → Went
went_as k w = record { rounds = k; written = w }

-- ---- the flags

marked_bits : (ms : List Bool) → flags_marked (map bit ms) ≡ ms
marked_bits [] = refl
marked_bits (true ∷ ms) = rw (marked_bits ms)
marked_bits (false ∷ ms) = rw (marked_bits ms)

bits_none : (j : ℕ) → map bit (replicate j false) ≡ replicate j 0
bits_none zero = refl
bits_none (suc j) = rw (bits_none j)

bits_last : (j : ℕ) → map bit (replicate j false ++ (true ∷ [])) ≡ replicate j 0 ++ (1 ∷ [])
bits_last j = rw (map-append, bits_none j)

-- ---- a run that ran had passed the checks

module _ (S : Settings) (x : Access) (L : Lent) where
  began : (n : ℕ) (fl e : List ℕ) {k w : ℕ} → (rounds_call S x n L fl e).went ≡ Ok record { rounds = k; written = w }
      → (es : List Event) × (M : Lent) × (start_call S x L ≡ done es M) × ((leb n (length fl) && room_for n e) ≡ true)
  unfolding rounds_call
  began n fl e {k} {w} h = by-start (start_call S x L) refl h
    where
      by-start : (o : Outcome Lent) → start_call S x L ≡ o → (rounds_checked S x n L fl e o).went ≡ Ok record { rounds = k; written = w }
          → (es : List Event) × (M : Lent) × (start_call S x L ≡ done es M) × ((leb n (length fl) && room_for n e) ≡ true)
      by-start (refused j) q g = absurd (false≢true (cc))
      by-start (done es M) q g = (es, M, q, ⊎_elim (λ b. b) (λ b. let z = rw b at g in cc) (flag (leb n (length fl) && room_for n e)))

  started : {es : List Event} {M : Lent} → start_call S x L ≡ done es M → (well_formed x ≡ true) × (verdict_of (check_call S L) ≡ Ok tt)
  started {es} {M} h = go (check_call S L) h
    where
      go : (o : Outcome Lent) → formed x L o ≡ done es M → (well_formed x ≡ true) × (verdict_of o ≡ Ok tt)
      go (refused j) g = absurd (false≢true (cc))
      go (done fs N) g = (⊎_elim (λ b. b) (λ b. let z = rw b at g in cc) (flag (well_formed x)), refl)

-- words are 32-bit numbers, as their type says (`Small`)
module _ (S : Settings) (x : Access) (L : Lent) (small : Small L) where
  abbrev C : SeenCalls Lent
  C = seen_calls S x

  -- what `run_rounds` ensures
  module _ (n : ℕ) (fl e : List ℕ) {r₁ : Result Went NotRun} {M₁ : Lent} {f₁ gl : List ℕ} (runs : rounds_shown r₁ M₁ f₁ ≡ rounds_call S x n L fl e) (flags : gl ≡ flags_call S x n L fl e)
      {k w : ℕ} (went : r₁ ≡ Ok record { rounds = k; written = w }) where
    begun : (es : List Event) × (M : Lent) × (start_call S x L ≡ done es M) × ((leb n (length fl) && room_for n e) ≡ true)
    begun = began S x L n fl e (sym (ap (λ (s : RoundsShown). s.went) runs) ∙ went)

    demand : Demand3 C L
    demand =
        let (es, M, o, room) = begun in
        let (form, passed) = started S x L o in
        let (range, fits, soundly) = passed_is S L passed in
        demand_3_seen_lent S x L range fits small soundly form

    runs_to : rounds_call S x n L fl e ≡ ran_to (length (rounds C n L).offers) (rounds C n L).turn e
    unfolding rounds_call
    runs_to = let (es, M, o, room) = begun in rw (o, room)

    flags-to : flags_call S x n L fl e ≡ map bit (marks (rounds C n L)) ++ drop (length (rounds C n L).offers) fl
    unfolding flags_call
    flags-to = let (es, M, o, room) = begun in rw (o, room)

    many : k ≡ length (rounds C n L).offers
    many =
        let a = ap (λ (s : RoundsShown). s.went) (runs ∙ runs_to) in
        let same : went_as k w ≡ went_as (length (rounds C n L).offers) (length (log_bytes (rounds C n L).turn.events)) = cc in
        ap (λ (g : Went). g.rounds) same

    bits : take k gl ≡ map bit (marks (rounds C n L))
    bits =
        let b : length (map bit (marks (rounds C n L))) ≡ k = rw (length-map, length-map) (sym many) in
        ap (take k) (flags ∙ flags-to) ∙ take_at (map bit (marks (rounds C n L))) (drop (length (rounds C n L).offers) fl) k b

    fed : flags_marked (take k gl) ≡ marks (rounds C n L)
    fed = ap flags_marked bits ∙ marked_bits (marks (rounds C n L))

    fed-length : length (take k gl) ≡ k
    fed-length = ap length bits ∙ rw (length-map, length-map) (sym many)

    -- "For every number of such rounds": what `run_struck` ensures, fed a copy of the tables and the flags of the rounds that were run
    module _ (d : List ℕ) (enough : k ≤ length d / round_bytes) {r₂ : Result Went NotRun} {M₂ : Lent} {f₂ : List ℕ} (strikes : rounds_shown r₂ M₂ f₂ ≡ struck_call S x L (take k gl) d) where
      strikes-to : struck_call S x L (take k gl) d ≡ ran_to k (struck C (marks (rounds C n L)) L) d
      unfolding struck_call
      strikes-to = let (es, M, o, room) = begun in rw (o, fed-length, le-leb k (length d / round_bytes) enough, fed)

      pub demand-3-of-runs : SameRuns k r₁ M₁ e f₁ r₂ M₂ d f₂
      demand-3-of-runs =
          let same = demand.strikes n in
          let a = runs ∙ runs_to in
          let b = strikes ∙ strikes-to in
          let l₁ : M₁ ≡ (rounds C n L).turn.left = ap (λ (s : RoundsShown). s.left) a in
          let l₂ : M₂ ≡ (struck C (marks (rounds C n L)) L).left = ap (λ (s : RoundsShown). s.left) b in
          record {
            told = (rounds C n L).turn.events;
            struck = (struck C (marks (rounds C n L)) L).events;
            first = rw (many, l₁) (rw l₁ at a);
            second = rw l₂ (rw l₂ at b);
            left = l₂ ∙ ap (λ (t : Turn Lent). t.left) same ∙ sym l₁;
            events = ap (λ (t : Turn Lent). t.events) same;
          }

    -- ---- the bound

    abbrev most : ℕ
    most = suc (waits C L)

    in-time : most ≤ n → any accepts (rounds C most L).offers ≡ true → InTime most k gl
    in-time enough h =
        let same : rounds C n L ≡ rounds C most L = longer C most n L enough h in
        let (j, e) = marks_accepted C most L h in
        let all : take k gl ≡ replicate j 0 ++ (1 ∷ []) = bits ∙ ap (λ (r : Course Lent). map bit (marks r)) same ∙ ap (map bit) e ∙ bits_last j in
        let size : length {A = ℕ} (replicate j 0 ++ (1 ∷ [])) ≡ suc j = rw (length-append, length-replicate) (omega arith) in
        let few : k ≤ most = rw (many ∙ ap (λ (r : Course Lent). length r.offers) same) (offers_few C most L) in
        record { refusals = j; count = sym fed-length ∙ ap length all ∙ size; few = few; flags = all }

    held_on : most ≤ n → ((j : ℕ) → held_in C (waits C L + j) L) → HeldOn most n k gl (rounds C n L).offers
    held_on enough h =
        let at : (i : ℕ) → most ≤ suc i → held_in C i L = λ i g. let z : waits C L + (i - waits C L) ≡ i = omega arith in subst (λ (v : ℕ). held_in C v L) z (h (i - waits C L)) in
        let z : suc (n - 1) ≡ n = omega arith in
        let ms : marks (rounds C n L) ≡ replicate n false = subst (λ (v : ℕ). marks (rounds C v L) ≡ replicate v false) z (marks_held C (n - 1) L (at (n - 1) (omega arith))) in
        let all : take k gl ≡ replicate n 0 = bits ∙ ap (map bit) ms ∙ bits_none n in
        record {
          count = sym fed-length ∙ ap length all ∙ length-replicate n 0;
          flags = all;
          held = λ i g l. offers_first C i n L l ∙ at i g;
        }

    -- with q + m rounds or more, and 1 at the least
    pub settles-of-runs : most ≤ n → Settled S x L n k gl
    settles-of-runs enough = ⊎_elim (λ h. inl (in-time enough h)) (λ h. inr (held_on enough h)) demand.settles
