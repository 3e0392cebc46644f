-- The two loops over the records: where they stand, a turn, their ends.
use Rattle.model.specs.declared.Body.{Body}
use Rattle.std.specs.Prelude.{Some, Result, Option, None, is_some}
use Rattle.words.proofs.General.{ℕ, suc, ◌+◌, ◌-◌, ◌≤◌, ◌<◌, add_assoc, arith, ◌≡◌, refl, sym, ap, ◌∙◌, subst, ◌⊎◌, inl, Bool, true, false, not, ◌&&◌, List, ◌++◌}
use Rattle.words.proofs.General.{append_assoc, length, take, drop, length-append, length-drop, length-take-le, take-append_seam, drop-append_seam, drop-drop, ltb, ltb-true}
use Rattle.words.proofs.General.{and_1, and_2, and_i, not-no}
use native.Mathlib.Decide.{dec_le}
use Rattle.model.proofs.Terms.{Tables, Lent, read_at, event_room, later_stop, goes_on, RunResult, lent_result, Runs, Encodes, SoundSlices}
use Rattle.model.specs.declared.Settings.{Settings}
use Rattle.model.specs.declared.Stop.{Stop}
use Rattle.model.specs.declared.Ran.{Ran}
use Rattle.running.specs.declared.record.Went.{Went}
use Rattle.running.specs.Resume.{record_kind_at, rest_at, is_step, later_found, record_from, rest_from, RunAt, Resumes, UsualAt, Tries, WholeBelow, whole_from, RunStands}
use Rattle.running.proofs.Checks.{step_short, found-later}
use Rattle.running.proofs.Singles.{halts_here, single_halts}
use Rattle.running.proofs.Running.{Going, going, run_ends, single_stops, single-goes, single_further}

-- ---- lists

-- what agrees behind `out` agrees further behind
drop_further : (out n : ℕ) (e e₀ : List ℕ) → drop out e ≡ drop out e₀ → out ≤ n → drop n e ≡ drop n e₀
drop_further out n e e₀ h k =
    let q : n ≡ out + (n - out) = omega arith in
    rw (q, ← drop-drop, ← drop-drop) (ap (drop (n - out)) h)

-- ---- what is left in the caller's hands, behind other bytes

runs_behind : {o : RunResult Lent} {e : List ℕ} {r : Ran} {f : List ℕ} {M : Lent} (out : ℕ) (e₀ : List ℕ) → drop out e ≡ drop out e₀ → out ≤ length o.events → Runs o e r f M
    → Runs o e₀ r f M
runs_behind {o} {e} out e₀ same far h = record {
  stop = h.stop;
  consumed = h.consumed;
  written = h.written;
  events = h.events ∙ rw (drop_further out (length o.events) e e₀ same far);
  tables = h.tables;
}

-- where o and p come to the same
resumes_as : {S : Settings} {o p : Tables → RunResult Tables} {s : List ℕ} {at out : ℕ} {e : List ℕ} {L : Lent} {r : Ran} {f : List ℕ} {M : Lent}
    → ((t : Tables) → Encodes S L t → p t ≡ o t) → Resumes S o s at out e L r f M → Resumes S p s at out e L r f M
resumes_as same u = record { on = λ t i. rw (same t i) (u.on t i); keeps = λ t i. rw (same t i) (u.keeps t i); stands = u.stands }

-- ---- a run that stands at another place

module _ {S : Settings} {s : List ℕ} where
  pub run_stands_first : {at out : ℕ} {e : List ℕ} {L : Lent} → RunAt s at out e → RunStands S s at out e L at out e L
  run_stands_first h = record {
    here = h;
    further = omega arith;
    more = omega arith;
    size = refl;
    longs = refl;
    words = refl;
    marks = refl;
    beyond = refl;
    leads = λ t i. record { tables = t; are = i; same = refl };
  }

  module _ {at₀ out₀ : ℕ} {e₀ : List ℕ} {L₀ : Lent} {at out : ℕ} {e : List ℕ} {L : Lent} (g : RunStands S s at₀ out₀ e₀ L₀ at out e L) where
    pub run-stands-held : SoundSlices S L₀ → SoundSlices S L
    run-stands-held h = let x = g.leads h.tables h.are in record { tables = x.tables; are = x.are }

    -- and from there to another
    pub run-stands-then : {at₁ out₁ : ℕ} {e₁ : List ℕ} {L₁ : Lent} → RunStands S s at out e L at₁ out₁ e₁ L₁ → RunStands S s at₀ out₀ e₀ L₀ at₁ out₁ e₁ L₁
    run-stands-then {at₁} {out₁} {e₁} {L₁} h = record {
      here = h.here;
      further = omega (arith, g.further, h.further);
      more = omega (arith, g.more, h.more);
      size = h.size ∙ g.size;
      longs = h.longs ∙ g.longs;
      words = h.words ∙ g.words;
      marks = h.marks ∙ g.marks;
      beyond = h.beyond ∙ drop_further out out₁ e e₀ g.beyond h.more;
      leads = λ t₀ i.
          let x = g.leads t₀ i in
          let y = h.leads x.tables x.are in
          record { tables = y.tables; are = y.are; same = y.same ∙ x.same };
    }

    -- the rest, run from here behind e, leaves what the whole leaves behind e₀
    goes-whole : {r : Ran} {f : List ℕ} {M : Lent} → Resumes S (rest_from S s at out e) s at out e L r f M
        → Resumes S (rest_from S s at₀ out₀ e₀) s at₀ out₀ e₀ L₀ r f M
    goes-whole {r} {f} {M} u = record {
      on = λ t₀ i.
          let x = g.leads t₀ i in
          let w = length-take-le out e g.here.room in
          let far : out ≤ length (take out e ++ (rest_from S s at out e x.tables).events) = rw length-append (omega arith) in
          subst (λ (o : RunResult Tables). Runs (lent_result S o) e₀ r f M) x.same (runs_behind out e₀ g.beyond far (u.on x.tables x.are));
      keeps = λ t₀ i.
          let x = g.leads t₀ i in
          subst (λ (o : RunResult Tables). Encodes S M o.tables) x.same (u.keeps x.tables x.are);
      stands = u.stands;
    }

    pub goes-ends : length s ≤ at → Resumes S (rest_from S s at₀ out₀ e₀) s at₀ out₀ e₀ L₀ record { stop = None; consumed = at; written = out } e L
    goes-ends end = goes-whole (halts_here g.here (λ t. run_ends S (length e - out) s at t end))

    -- one record more, that stops
    pub goes-stops : at < length s → {r : Ran} {f : List ℕ} {M : Lent} → Resumes S (record_from S s at out e) s at out e L r f M → goes_on r.stop ≡ false
        → Resumes S (rest_from S s at₀ out₀ e₀) s at₀ out₀ e₀ L₀ r f M
    goes-stops inside u h = goes-whole (resumes_as (λ t i. single_stops S (length e - out) s at t inside (rw (← (u.on t i).stop) h)) u)

  -- and that goes on
  module _ {at out : ℕ} {e : List ℕ} {L : Lent} (here : RunAt s at out e) (inside : at < length s) {r : Ran} {f : List ℕ} {M : Lent}
      (u : Resumes S (record_from S s at out e) s at out e L r f M) (held : SoundSlices S L) (h : goes_on r.stop ≡ true) where
    went : (t : Tables) → Encodes S L t → goes_on (record_from S s at out e t).stop ≡ true
    went t i = rw (← (u.on t i).stop) h

    abbrev told_now : Tables → List ℕ
    told_now t = take out e ++ (record_from S s at out e t).events

    told-long : (t : Tables) → length (told_now t) ≡ out + length (record_from S s at out e t).events
    told-long t = rw (length-append, length-take-le out e here.room)

    pub record-further : at < r.consumed
    record-further =
        let t = held.tables in
        let c : r.consumed ≡ at + (record_from S s at out e t).consumed = (u.on t held.are).consumed in
        omega (arith, single_further S (length e - out) s at t inside (went t held.are))

    -- what is left, run from behind it, gives what it gives from here
    led : (t : Tables) (i : Encodes S L t) → length f ≡ length e
        → whole_from S s r.consumed r.written f (record_from S s at out e t).tables ≡ whole_from S s at out e t
    led t i size =
        let o = u.on t i in
        let a : take r.written f ≡ told_now t = rw (o.written, o.events) (take-append_seam (told_now t) _) in
        let b : length f - r.written ≡ length e - out - length (record_from S s at out e t).events = let w = o.written in omega (arith, told-long t) in
        rw (a, b, o.consumed, single-goes S (length e - out) s at t inside (went t i), append_assoc, add_assoc)

    pub record-stands : length f ≡ length e → length M.longs ≡ length L.longs → length M.words ≡ length L.words
        → length M.marks ≡ length L.marks → RunStands S s at out e L r.consumed r.written f M
    record-stands size longs words marks =
        let o = u.on held.tables held.are in
        record {
          here = u.stands;
          further = let a = record-further in omega arith;
          more = let w = o.written in omega (arith, told-long held.tables);
          size = size;
          longs = longs;
          words = words;
          marks = marks;
          beyond = rw (o.written, o.events, drop-append_seam);
          leads = λ t i. record { tables = (record_from S s at out e t).tables; are = u.keeps t i; same = led t i size };
        }

-- ---- the usual records, one after the other

-- it has come further, or nothing has been done
abbrev pub Moved : ℕ → ℕ → ℕ → ℕ → Type 0
Moved at₀ out₀ at out = (at₀ < at) ⊎ ((at ≡ at₀) × (out ≡ out₀))

module _ {S : Settings} {s : List ℕ} {at₀ out₀ : ℕ} {e₀ : List ℕ} {L₀ : Lent} {at out : ℕ} {e : List ℕ} {L : Lent}
    (g : RunStands S s at₀ out₀ e₀ L₀ at out e L) {limit ample : ℕ} where
  pub usual_at : WholeBelow s at₀ limit → ample ≡ length e₀ + 1 - event_room → (ltb at limit && ltb out ample) ≡ true → UsualAt s at out e
  usual_at below fits test =
      let a = ltb-true at limit (and_1 (ltb at limit) (ltb out ample) test) in
      let b = ltb-true out ample (and_2 (ltb at limit) (ltb out ample) test) in
      let z = g.size in
      record {
        stands = g.here;
        inside = omega (arith, below.inside);
        whole = below.whole at g.further a;
        roomy = omega arith;
      }

-- at a step's
module _ {S : Settings} {s : List ℕ} (w v : Went) {e : List ℕ} {L : Lent} {f : List ℕ} {M : Lent} (x : Tries S s w e L (Some v) f M)
    {at₀ out₀ : ℕ} {e₀ : List ℕ} {L₀ : Lent} (g : RunStands S s at₀ out₀ e₀ L₀ w.at w.out e L) {limit ample : ℕ}
    (below : WholeBelow s at₀ limit) (fits : ample ≡ length e₀ + 1 - event_room) (test : (ltb w.at limit && ltb w.out ample) ≡ true) (start : SoundSlices S L₀) where
  u : UsualAt s w.at w.out e
  u = usual_at g below fits test

  held : SoundSlices S L
  held = run-stands-held g start

  further : w.at < v.at
  further = record-further u.stands u.inside x.1 held refl

  pub usual-nearer : length s - v.at < length s - w.at
  usual-nearer = omega (arith, further, x.1.stands.inside)

  pub usual-moved : Moved at₀ out₀ v.at v.out
  usual-moved = inl (omega (arith, g.further, further))

  pub usual-stands : length f ≡ length e → length M.longs ≡ length L.longs → length M.words ≡ length L.words → length M.marks ≡ length L.marks
      → RunStands S s at₀ out₀ e₀ L₀ v.at v.out f M
  usual-stands size longs words marks = run-stands-then g (record-stands u.stands u.inside x.1 held refl size longs words marks)

-- ---- the run: the usual records, then one that is judged in full

-- below the place at which the longest begins that is whole
pub whole_first : {s : List ℕ} {from limit : ℕ} → limit ≡ length s + 1 - 13 → WholeBelow s from limit
whole_first {s} ends = record {
  inside = omega arith;
  whole = λ at h below step. let l = step_short (record_kind_at s at) step in omega arith;
}

-- the record there, by what reading it came to
module _ {S : Settings} {s : List ℕ} {at₀ out₀ : ℕ} {e₀ : List ℕ} {L₀ : Lent} {at out : ℕ} {e : List ℕ} {L : Lent} (g : RunStands S s at₀ out₀ e₀ L₀ at out e L)
    (inside : at < length s) {found : Result Body Stop} (read : found ≡ read_at s at) {n : Option Stop} (d : n ≡ later_found (length e - out) (record_kind_at s at) found)
    {b : Bool} (said : b ≡ is_some n) where
  stop_is : n ≡ later_stop (length e - out) (record_kind_at s at) (rest_at s at)
  stop_is = found-later s at inside read (length e - out) d

  pub judged_stops : b ≡ true → Resumes S (rest_from S s at₀ out₀ e₀) s at₀ out₀ e₀ L₀ record { stop = n; consumed = at; written = out } e L
  judged_stops t = let stops : goes_on n ≡ false = ap not (sym said ∙ t) in goes-stops g inside (single_halts S s at out e L g.here stop_is stops) stops

  judged : b ≡ false → Going (length e - out) (record_kind_at s at) (rest_at s at)
  judged t = going _ _ _ (rw (← stop_is) (ap not (sym said ∙ t)))

  pub whole_one : b ≡ false → WholeBelow s at (at + 1)
  whole_one t = record {
    inside = omega arith;
    whole = λ i h below step.
        let p : i ≡ at = omega arith in
        let w = (judged t).whole in
        let l : length (rest_at s at) ≡ length s - (at + 1) = length-drop (at + 1) s in
        rw p (omega arith);
  }

  -- so the run came further, or comes further from there
  module _ (t : b ≡ false) {limit ample : ℕ} (fits : ample ≡ length e₀ + 1 - event_room) (moves : at₀ < limit → out₀ < ample → is_step (record_kind_at s at₀) ≡ true → at₀ < at) where
    pub run-nearer : length s - at + (1 - (at + 1 - at)) < length s - at₀ + (1 - (limit - at₀))
    run-nearer = by (dec_le (suc at₀) at) (dec_le (suc at₀) limit)
      where
        by : Dec (suc at₀ ≤ at) → Dec (suc at₀ ≤ limit) → length s - at + (1 - (at + 1 - at)) < length s - at₀ + (1 - (limit - at₀))
        by (yes far) b = omega arith
        by (no near) (no past) = omega (arith, g.further)
        by (no near) (yes below) =
            let p : at ≡ at₀ = omega (arith, g.further) in
            let step : is_step (record_kind_at s at) ≡ true = and_i (judged t).command (not-no (judged t).later) in
            let roomy = (judged t).roomy in
            let z = g.size in
            absurd (near (moves below (omega (arith, g.more, g.here.room)) (rw p at step)))
