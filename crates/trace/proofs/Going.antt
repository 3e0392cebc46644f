-- A read takes bytes off those that may come or is the last; a record that is run is gone past, or it is the last.
use Rattle.words.proofs.General.{ℕ, ◌-◌, ◌≤◌, ◌<◌, arith, ◌≡◌, refl, ap, ◌∙◌, Bool, true, false, ◌&&◌, List, length, take, length-take, leb, leb-true, by_flag, and_2}
use Rattle.std.specs.Prelude.{Ok, Err, Result as Outcome, Option, Some, None}
use Rattle.model.proofs.Terms.{Tables, Lent, RunResult, SoundSlices}
use Rattle.model.specs.declared.Settings.{Settings}
use Rattle.model.specs.declared.Ran.{Ran}
use Rattle.model.specs.declared.Stop.{Stop}
use Rattle.model.specs.declared.Stop.TheVariants as stop
use Rattle.running.specs.Begin.{beginning}
use Rattle.running.specs.Resume.{RunAt, Resumes}
use Rattle.input.specs.Buffers.{Grown, turns_left, carried_count}
use Rattle.input.specs.declared.NoMore.{NoMore}
use Rattle.input.specs.declared.NoMore.TheVariants as no
use Rattle.input.specs.declared.Waiting.{Waiting}
use Rattle.input.proofs.Counts.{grown_inside, turns_fall, turns_none}
use Rattle.streaming.specs.declared.work.Next.TheVariants as next
use Rattle.streaming.specs.declared.work.Work.{Work}
use Rattle.streaming.specs.declared.work.Work as begun
use Rattle.streaming.specs.Works.{goes_next, read_by, stopped_of}
use Rattle.streaming.specs.Parts.{ReadsOnce}
use Rattle.streaming.specs.Halts.{Claims}
use Rattle.streaming.specs.First.{Opened}
use Rattle.streaming.proofs.Wholes.{over_rests, first_claims}
use Rattle.trace.specs.declared.turns.Turn.{Turn}
use Rattle.trace.specs.Turns.{Traced, after_records, Standing, Reads, Over}

-- ---- reading

pub read_reads : {l l₁ : List ℕ} (w : Work) {v : Work} → ReadsOnce l w v l₁ → length l₁ ≡ length l → w.have ≤ length l → Reads (length l₁) w.left v
read_reads {l} {l₁} w {v} x size inside = by x.said x.grown x.is
  where
    by : (r : Outcome Waiting NoMore) → Grown l w.have w.left r l₁ → v ≡ read_by w r → Reads (length l₁) w.left v
    by (Ok n) g e = rw e record { inside = omega (arith, grown_inside g refl); fewer = turns_fall g refl true; claims = tt }
    by (Err (no.End end)) g e = rw e record { inside = omega arith; fewer = omega arith; claims = g.grows }
    by (Err no.Full) g e = rw e record { inside = omega arith; fewer = omega arith; claims = tt }
    by (Err (no.Failed why)) g e = rw e record { inside = omega arith; fewer = omega arith; claims = tt }

-- ---- a turn

pub records_claims : (n : Option Stop) (have : ℕ) → Claims (after_records n) n have
records_claims None have = tt
records_claims (Some stop.CutShort) have = tt
records_claims (Some stop.NoRoom) have = refl
records_claims (Some stop.SettingOutOfRange) have = refl
records_claims (Some stop.SliceLength) have = refl
records_claims (Some stop.NotSound) have = refl
records_claims (Some stop.OutOfPlace) have = refl
records_claims (Some stop.UnknownKind) have = refl

pub failed_stands : {have left : ℕ} {v : Work} → v.have ≡ have → v.left ≡ left → v.next ≡ next.Failed → Standing have left v
failed_stands h l e = record { waits = h; comes = l; claims = rw e tt }

pub trace_over : {size have left : ℕ} {v : Work} → Standing have left v → v.have ≤ size → goes_next v.next ≡ false → Reads size left v
trace_over {v = v} s h e = record { inside = h; fewer = turns_none (goes_next v.next) _ _ e; claims = s.claims }

pub reads_by : {size a b : ℕ} {v : Work} → a ≡ b → Reads size a v → Reads size b v
reads_by e r = rw (← e) r

pub over_failed : {v : Work} → v.next ≡ next.Failed → Over v
over_failed e = record { over = rw e; claims = rw e tt }

pub first_over : (L : Lent) (b : List ℕ) {w : begun.Work} → Opened b w → {n : Option Stop} → beginning L (take w.have b) ≡ Err n → {v : Work} → v ≡ stopped_of w n → Over v
first_over L b {w} o {n} q {v} f = rw f record { over = over_rests w.next; claims = first_claims L b o n q }

-- what is carried stands in the buffer
carried_most : (l : List ℕ) (from to : ℕ) → carried_count l from to ≤ length l
unfolding carried_count
carried_most l from to =
    by_flag (λ (m : ℕ). m ≤ length l) (leb from to && leb to (length l)) _ _
    (λ z. let h = leb-true to (length l) (and_2 (leb from to) (leb to (length l)) z) in omega arith)
    (λ z. omega arith)

pub carried-inside : (l : List ℕ) (from to : ℕ) {have : ℕ} → have ≡ carried_count l from to → {size : ℕ} → size ≡ length l → {n : ℕ} → n ≡ have → n ≤ size
carried-inside l from to e k q = omega (arith, carried_most l from to)

-- ---- a record

pub front_stands : {q : List ℕ} (s : List ℕ) {at : ℕ} (end : ℕ) (e : List ℕ) → q ≡ take end s → at ≤ end → at ≤ length s → RunAt q at 0 e
front_stands s end e is h k = record { inside = let z = ap length is ∙ length-take end s in omega arith; room = omega arith }

module _ {S : Settings} {o : Tables → RunResult Tables} {q : List ℕ} {at out : ℕ} {e : List ℕ} {L : Lent} {r : Ran} {f : List ℕ} {M : Lent}
    (v : Resumes S o q at out e L r f M) (h : SoundSlices S L) where
  pub ran_held : SoundSlices S M
  ran_held = record { tables = (o h.tables).tables; are = v.keeps h.tables h.are }

  module _ (s : List ℕ) (end : ℕ) (is : q ≡ take end s) (t : Turn) {u : Turn} where
    pub record-halted : t.at ≤ length s → (u.at ≡ t.at) × (u.more ≡ false) → Traced S (length s) t u M
    record-halted k e = record { held = ran_held; inside = omega arith; further = turns_none u.more _ _ e.1 }

    pub record-ran : t.at < r.consumed → u.at ≡ r.consumed → Traced S (length s) t u M
    record-ran k e =
        let z = ap length is ∙ length-take end s in
        let i : u.at ≤ length s = omega (arith, v.stands.inside) in
        record { held = ran_held; inside = i; further = further u.more i }
      where
        further : (goes : Bool) → u.at ≤ length s → turns_left goes (length s - u.at) ≤ length s - t.at
        further true i = omega arith
        further false i = omega arith
