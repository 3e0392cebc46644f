-- The first record: what it holds and what it comes to, by the tests that the code makes, and the run behind it.
use Rattle.model.specs.declared.Body.{Body}
use Rattle.std.specs.Prelude.{Result, Ok, Err, Option, Some, None}
use Rattle.words.proofs.General.{ℕ, suc, ◌+◌, ◌-◌, ◌≤◌, ◌<◌, sub-zero, arith, ◌≡◌, refl, sym, ap, ◌∙◌, ⊎_elim, Bool, true, false, List, [], ◌∷◌, length, drop, length-drop}
use Rattle.words.proofs.General.{lt-ltb, le-ltb, pick, clash, by_flag, flag}
use Rattle.model.proofs.Terms.{in_range, start, after, Lent, lengths_fit, fresh_call, verdict_of, is_settings, length_of, settings_in, read_at, body_at, settings_of}
use Rattle.model.proofs.Terms.{settings_stop, first_stop, goes_on, RunResult, halt, bytes_then, run_from, lent_result, run, Runs, Encodes, SoundSlices}
use Rattle.model.specs.RunnerOf as runner
use Rattle.model.specs.declared.Settings.{Settings}
use Rattle.model.specs.declared.Refusal.{Refusal}
use Rattle.model.specs.declared.Stop.{Stop}
use Rattle.model.specs.declared.Stop.TheVariants.{OutOfPlace}
use Rattle.model.specs.declared.Ran.{Ran}
use Rattle.model.proofs.Soundness.{start-sound}
use Rattle.reader.specs.Taken.{behind}
use Rattle.cache.specs.Made.{LeavesVerdict}
use Rattle.running.specs.Resume.{record_kind_at, rest_at, found_stop, rest_from, RunAt, Resumes}
use Rattle.running.specs.Begin.{Opening, first_head, first_record, begun_on, beginning, begun_tables, Begins, Accepts, fresh_stop, refused_stop}
use Rattle.running.proofs.Running.{by_record, run_skips}
use Rattle.running.proofs.Checks.{found-record, found-next, found-body}

-- ---- what it holds, by the tests that the code makes

record_is : (s : List ℕ) → (length s ≡ 0 → ⊥)
    → first_record s
    ≡ pick (goes_on (first_head (record_kind_at s 0) (rest_at s 0))) (Ok (settings_of (record_kind_at s 0) (rest_at s 0), 1 + length_of (record_kind_at s 0)))
    (Err (first_head (record_kind_at s 0) (rest_at s 0)))
unfolding first_record
record_is [] some = absurd (some refl)
record_is (k ∷ bs) some = refl

pub first-none : (s : List ℕ) → length s ≡ 0 → Err None ≡ first_record s
unfolding first_record
first-none [] h = refl
first-none (k ∷ bs) h = absurd (omega arith)

module _ (s : List ℕ) (some : length s ≡ 0 → ⊥) {f : Result Body Stop} (read : f ≡ read_at s 0) {n : Option Stop} (d : n ≡ found_stop (record_kind_at s 0) f None (Some OutOfPlace)) where
  inside : 0 < length s
  inside = omega arith

  head_is : n ≡ first_head (record_kind_at s 0) (rest_at s 0)
  head_is = found-record s 0 inside read None (Some OutOfPlace) d

  pub first_stopped : goes_on n ≡ false → Err n ≡ first_record s
  first_stopped h = rw (record_is s some, ← head_is, h)

  pub first_holds : goes_on n ≡ true → {body : List ℕ} → body ≡ body_at s 0 → {S : Settings} → S ≡ settings_in body → {c : ℕ} → c ≡ behind s 0 → Ok (S, c) ≡ first_record s
  first_holds h is {S} e {c} q =
      let b : S ≡ settings_of (record_kind_at s 0) (rest_at s 0) = e ∙ ap settings_in (is ∙ found-body s 0 inside read None (Some OutOfPlace) d h) in
      let a : c ≡ 1 + length_of (record_kind_at s 0) = found-next s 0 inside read None (Some OutOfPlace) d h q in
      rw (b, a, record_is s some, ← head_is, h)

-- ---- what it comes to

-- of settings, by the call that makes the tables fresh
fresh_comes : (S : Settings) (L : Lent) (next : ℕ)
    → (fresh_stop (verdict_of (fresh_call S L)) ≡ settings_stop S L) × (after L (fresh_call S L) ≡ begun_tables L (begun_on L (Ok (S, next))))
fresh_comes S L next =
    ⊎_elim
    (λ (r : in_range S ≡ true). ⊎_elim (λ (f : lengths_fit S L ≡ true). rw (r, f) (refl, refl)) (λ (f : lengths_fit S L ≡ false). rw (r, f) (refl, refl)) (flag (lengths_fit S L)))
    (λ (r : in_range S ≡ false). rw r (refl, refl))
    (flag (in_range S))

pub refused_stops : (n : Refusal) → goes_on (Some (refused_stop n)) ≡ false
refused_stops n = refl

pub accept_by : {b : Bool} (S : Settings) (next : ℕ) (L : Lent) {v : Result (Unit {0}) Refusal} {M : Lent} → LeavesVerdict (fresh_call S L) L v M → {n : Option Stop} → n ≡ fresh_stop v → goes_on n ≡ b
    → Accepts L (Ok (S, next)) (pick b (Ok (S, next)) (Err n)) M
accept_by S next L made {n} d h =
    let judged : n ≡ settings_stop S L = d ∙ ap fresh_stop made.says ∙ (fresh_comes S L next).0 in
    record { says = rw (← judged, h); tables = made.left ∙ (fresh_comes S L next).1 }

-- of a stream: 1 and 2 behind the other checks
pub first_begins : (L : Lent) (s : List ℕ) → begun_on L (first_record s) ≡ beginning L s
unfolding first_record beginning runner.first_stop
first_begins L [] = refl
first_begins L (k ∷ bs) =
    by_record (λ n. begun_on L (first_record (k ∷ bs)) ≡ beginning L (k ∷ bs)) k bs {a = None} {b = None} (λ c. rw c) (λ c w. rw (c, lt-ltb _ _ w))
    (λ c w z. rw (c, le-ltb _ _ w, z)) (λ c w z. rw (c, le-ltb _ _ w, z))

pub accepts_begins : {L : Lent} (s : List ℕ) {x : Opening} → x ≡ first_record s → {r : Opening} {M : Lent} → Accepts L x r M → Begins L s r M
accepts_begins {L} s {x} e a =
    let q : begun_on L x ≡ beginning L s = ap (begun_on L) e ∙ first_begins L s in
    record { says = a.says ∙ q; tables = a.tables ∙ ap (begun_tables L) q }

-- ---- settings that are accepted

pub record FirstSettled (L : Lent) (k : ℕ) (rest : List ℕ) : Type 0 where
  pub settings : is_settings k ≡ true
  pub whole : length_of k ≤ length rest
  pub range : in_range (settings_of k rest) ≡ true
  pub fits : lengths_fit (settings_of k rest) L ≡ true

pub first_settled : (L : Lent) (k : ℕ) (rest : List ℕ) → goes_on (first_stop L k rest) ≡ true → FirstSettled L k rest
unfolding runner.first_stop
first_settled L k rest =
    by_record Goes k rest (λ z h. clash h refl) (λ c w h. clash h refl)
    (λ c w z. by_flag Goes (in_range (settings_of k rest)) _ _
    (λ r. by_flag Goes (lengths_fit (settings_of k rest) L) _ _ (λ f h. record { settings = z; whole = w; range = r; fits = f }) (λ f h. clash h refl))
    (λ r h. clash h refl))
    (λ c w z h. clash h refl)
  where
    Goes : Option Stop → Type 0
    Goes n = goes_on n ≡ true → FirstSettled L k rest

-- ---- the first record by itself, and the run behind it, as equations

-- what was stopped, and what was accepted
pub begun_stopped : (b : Bool) (S : Settings) (next : ℕ) {m n : Option Stop} → pick {A = Opening} b (Ok (S, next)) (Err m) ≡ Err n → (b ≡ false) × (m ≡ n)
begun_stopped true S next q = let e : ◌≡◌ {A = ℕ} 0 1 = cc in absurd (omega arith)
begun_stopped false S next q = (refl, cc)

pub begun_accepted : (b : Bool) (m : Option Stop) {S T : Settings} {next n : ℕ} → pick {A = Opening} b (Ok (S, next)) (Err m) ≡ Ok (T, n) → (b ≡ true) × (S ≡ T) × (next ≡ n)
begun_accepted true m {S} {T} {next} {n} q =
    let e : ◌≡◌ {A = Settings × ℕ} (S, next) (T, n) = cc in (refl, ap (λ (p : Settings × ℕ). p.0) e, ap (λ (p : Settings × ℕ). p.1) e)
begun_accepted false m q = let e : ◌≡◌ {A = ℕ} 0 1 = cc in absurd (omega arith)

pub run_halts : (room : ℕ) (L : Lent) (s : List ℕ) (n : Option Stop) → beginning L s ≡ Err n → run room s L ≡ halt n L
unfolding beginning runner.run
run_halts room L [] n q = let e : None ≡ n = cc in rw e
run_halts room L (k ∷ bs) n q = let (z, e) = begun_stopped (goes_on (first_stop L k bs)) _ _ q in rw (z, e)

record Taken (L : Lent) (s : List ℕ) (S : Settings) (n : ℕ) : Type 0 where
  some : length s ≡ 0 → ⊥
  goes : goes_on (first_stop L (record_kind_at s 0) (rest_at s 0)) ≡ true
  are : settings_of (record_kind_at s 0) (rest_at s 0) ≡ S
  next : 1 + length_of (record_kind_at s 0) ≡ n

taken : (L : Lent) (s : List ℕ) (S : Settings) (n : ℕ) → beginning L s ≡ Ok (S, n) → Taken L s S n
unfolding beginning
taken L [] S n q = let e : ◌≡◌ {A = ℕ} 0 1 = cc in absurd (omega arith)
taken L (k ∷ bs) S n q = let (z, e, c) = begun_accepted (goes_on (first_stop L k bs)) _ q in record { some = λ h. omega arith; goes = z; are = e; next = c }

pub run-accepts : (room : ℕ) (L : Lent) (k : ℕ) (bs : List ℕ) → goes_on (first_stop L k bs) ≡ true
    → run room (k ∷ bs) L
    ≡ bytes_then (1 + length_of k) [] (lent_result (settings_of k bs) (run_from (settings_of k bs) (length_of k) room bs (start (settings_of k bs))))
unfolding runner.run
run-accepts room L k bs z = rw z

-- n bytes of settings, then the run of what follows
abbrev pub on_from : Settings → ℕ → ℕ → List ℕ → RunResult Lent
on_from S n room s = bytes_then n [] (lent_result S (run_from S 0 room (drop n s) (start S)))

run-goes : (room : ℕ) (L : Lent) (s : List ℕ) (S : Settings) (n : ℕ) → Taken L s S n → run room s L ≡ on_from S n room s
run-goes room L [] S n t = absurd (t.some refl)
run-goes room L (k ∷ bs) S n t =
    let e : n ≡ suc (length_of k) = omega (arith, t.next) in
    let d : drop n (k ∷ bs) ≡ drop (length_of k) bs = rw e in
    rw (run-accepts room L k bs t.goes, run_skips _ _ room bs _ (first_settled L k bs t.goes).whole, ← t.are, t.next, d)

pub accepted_runs : (L : Lent) (s : List ℕ) {S : Settings} {n : ℕ} (room : ℕ) → beginning L s ≡ Ok (S, n) → run room s L ≡ on_from S n room s
accepted_runs L s {S} {n} room q = run-goes room L s S n (taken L s S n q)

pub accepted_long : (L : Lent) (s : List ℕ) {S : Settings} {n : ℕ} → beginning L s ≡ Ok (S, n) → n ≤ length s
accepted_long L s {S} {n} q =
    let t = taken L s S n q in
    let w = (first_settled L (record_kind_at s 0) (rest_at s 0) t.goes).whole in
    let c = t.next in
    let some = t.some in
    let l : length (rest_at s 0) ≡ length s - 1 = length-drop 1 s in
    omega arith

-- ---- the same, of what the functions promise

module _ {L : Lent} {s : List ℕ} {r : Opening} {M : Lent} (b : Begins L s r M) where
  pub run_stopped : {n : Option Stop} (room : ℕ) (e : List ℕ) → r ≡ Err n → Runs (run room s L) e record { stop = n; consumed = 0; written = 0 } e M
  run_stopped {n} room e q =
      let p : beginning L s ≡ Err n = sym b.says ∙ q in
      rw (run_halts room L s n p) record { stop = refl; consumed = refl; written = refl; events = refl; tables = b.tables ∙ rw p }

  module _ {S : Settings} {n : ℕ} (q : r ≡ Ok (S, n)) where
    settings : beginning L s ≡ Ok (S, n)
    settings = sym b.says ∙ q

    abbrev first_taken : Taken L s S n
    first_taken = taken L s S n settings

    opened : FirstSettled L (record_kind_at s 0) (rest_at s 0)
    opened = first_settled L (record_kind_at s 0) (rest_at s 0) first_taken.goes

    begun-is : Encodes S M (start S)
    begun-is = record {
      range = rw first_taken.are at opened.range;
      soundly = start-sound S;
      encoded = b.tables ∙ rw settings;
    }

    pub begun-held : SoundSlices S M
    begun-held = record { tables = start S; are = begun-is }

    pub begun-stands : (e : List ℕ) → RunAt s n 0 e
    begun-stands e = record { inside = accepted_long L s settings; room = omega arith }

    pub run-begun : (e : List ℕ) {p : Ran} {f : List ℕ} {N : Lent} → Resumes S (rest_from S s n 0 e) s n 0 e M p f N → Runs (run (length e) s L) e p f N
    run-begun e u = rw (run-goes (length e) L s S n first_taken) (rw sub-zero at (u.on (start S) begun-is))
