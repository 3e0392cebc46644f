-- The first record and the turns behind it, as one run.
use Rattle.words.proofs.General.{ℕ, ◌+◌, ◌-◌, ◌%◌, ◌^◌, ◌≤◌, zero-add, arith, ◌≡◌, refl, sym, ap, subst, ◌∙◌, ⊎_elim, true, false, List, [], ◌∷◌, ◌++◌, append-nil, append_assoc}
use Rattle.words.proofs.General.{length, take, drop, drop-append-le, take-append_seam, lt-ltb, le-leb, leb-true, clash, pick_both, flag}
use Rattle.model.proofs.Soundness.{start-sound}
use Rattle.model.proofs.Terms.{in_range, Tables, start, Lent, encode, lengths_fit, length_of, settings_of, first_stop, goes_on, RunResult, halt, bytes_then, run_from, lent_result, run}
use Rattle.model.proofs.Terms.{Encodes}
use Rattle.model.specs.RunnerOf as runner
use Rattle.model.specs.declared.Settings.{Settings}
use Rattle.model.specs.declared.Stop.{Stop}
use Rattle.model.specs.declared.Stop.TheVariants as stop
use Rattle.running.specs.Lengths.{Final}
use Rattle.std.specs.Prelude.{Ok, Err, Option, Some, None}
use Rattle.running.specs.Begin.{beginning, begun_tables, first_there}
use Rattle.running.proofs.Running.{by_record}
use Rattle.running.proofs.First.{begun_stopped, begun_accepted, accepted_long, accepted_runs, run_halts}
use Rattle.running.proofs.Parts.{begins_more}
use Rattle.streaming.specs.declared.work.Next.{Next}
use Rattle.streaming.specs.declared.work.Next.TheVariants as next
use Rattle.streaming.specs.declared.work.Work.{Work}
use Rattle.streaming.specs.declared.scope.Scope.TheVariants as scope
use Rattle.streaming.specs.Works.{Sure, over_next, goes_next, stopped_next, begun_of}
use Rattle.streaming.specs.Halts.{of_end, Claims, MayFollow, Halts, Before}
use Rattle.streaming.specs.First.{NoMoreRead, Opened}
use Rattle.streaming.specs.Parts.{Came, Went, Rested, Starts}
use Rattle.streaming.specs.Wholes.{Whole}

-- ---- the first record of a stream, once it decides

-- it is all there, or its kind is no command's
there_goes : (L : Lent) (k : ℕ) (bs : List ℕ) → (first_stop L k bs ≡ Some stop.CutShort → ⊥) → first_there (k ∷ bs) ≡ true
unfolding first_there runner.first_stop
there_goes L k bs g =
    by_record (λ n. first_there (k ∷ bs) ≡ true) k bs {a = None} {b = None} (λ c. rw c) (λ c w. absurd (g (rw (c, lt-ltb _ _ w))))
    (λ c w z. rw (c, le-leb _ _ w)) (λ c w z. rw (c, le-leb _ _ w))

-- one that is there and stops the run is not the end
abbrev Early : Option Stop → Type 0
Early n = goes_on n ≡ false → of_end n ≡ false

there_early : (L : Lent) (k : ℕ) (bs : List ℕ) → first_there (k ∷ bs) ≡ true → Early (first_stop L k bs)
unfolding first_there runner.first_stop
there_early L k bs h =
    by_record Early k bs (λ c z. refl)
    (λ c w. let v = leb-true (length_of k) (length bs) (rw c at h) in absurd (omega arith))
    (λ c w x. pick_both Early (in_range (settings_of k bs)) (pick_both Early (lengths_fit (settings_of k bs) L) (λ z. clash refl z) (λ z. refl)) (λ z. refl))
    (λ c w x z. refl)

module _ (L : Lent) where
  -- so its stop is no stop of the end
  there_stopped : (s : List ℕ) (n : Option Stop) → beginning L s ≡ Err n → first_there s ≡ true → of_end n ≡ false
  unfolding beginning first_there
  there_stopped [] n q h = clash h refl
  there_stopped (k ∷ bs) n q h = let (z, e) = begun_stopped (goes_on (first_stop L k bs)) _ _ q in rw (← e) (there_early L k bs h z)

  stopped_there : (s : List ℕ) (n : Option Stop) → beginning L s ≡ Err n → (n ≡ None → ⊥) → (n ≡ Some stop.CutShort → ⊥) → first_there s ≡ true
  unfolding beginning
  stopped_there [] n q f g = let e : None ≡ n = cc in absurd (f (sym e))
  stopped_there (k ∷ bs) n q f g = let (z, e) = begun_stopped (goes_on (first_stop L k bs)) _ _ q in there_goes L k bs (λ c. g (sym e ∙ c))

  -- also with what may come behind
  stopped_more : (s b : List ℕ) (n : Option Stop) → beginning L s ≡ Err n → MayFollow n b → beginning L (s ++ b) ≡ Err n
  stopped_more s b n q h =
      ⊎_elim
      (λ (z : of_end n ≡ true). rw (h z, append-nil) q)
      (λ (z : of_end n ≡ false). begins_more L s b (stopped_there s n q (λ e. clash (ap of_end e) z) (λ e. clash (ap of_end e) z)) ∙ q)
      (flag (of_end n))

  -- settings that are accepted are there
  accepted_there : (s : List ℕ) (S : Settings) (n : ℕ) → beginning L s ≡ Ok (S, n) → first_there s ≡ true
  unfolding beginning
  accepted_there [] S n q = let e : ◌≡◌ {A = ℕ} 0 1 = cc in absurd (omega arith)
  accepted_there (k ∷ bs) S n q = let (z, e, c) = begun_accepted (goes_on (first_stop L k bs)) _ q in there_goes L k bs (λ c. clash z (ap goes_on c))

  -- with anything behind
  pub opens_run : (s b : List ℕ) (S : Settings) (n room : ℕ) → beginning L s ≡ Ok (S, n)
      → run room (s ++ b) L ≡ bytes_then n [] (lent_result S (run_from S 0 room (drop n s ++ b) (start S)))
  opens_run s b S n room q =
      rw (accepted_runs L (s ++ b) room (begins_more L s b (accepted_there s S n q) ∙ q), drop-append-le n s b (accepted_long L s q))

-- ---- stopped at the first record

stopped_told : (m : Next) (n : Option Stop) → stopped_next m ≡ true
    → (Sure m n → Final n) × ((S : Settings) (p : List ℕ) (t : Tables) → Before S scope.All m n p t → Halts S n p t)
stopped_told next.Read n z = clash z refl
stopped_told next.Run n z = clash z refl
stopped_told next.Stopped n z = (λ h. h, λ S p t h. h)
stopped_told (next.Ended e) n z = (λ h. h, λ S p t h. h)
stopped_told next.Failed n z = clash z refl

-- what it claims of the input: what was asked of it
pub over_rests : (m : Next) → goes_next (over_next m) ≡ false
over_rests next.Read = refl
over_rests next.Run = refl
over_rests next.Stopped = refl
over_rests (next.Ended e) = refl
over_rests next.Failed = refl

over_claims : (m : Next) (n : Option Stop) (have : ℕ) (buf : List ℕ) → NoMoreRead m have buf → (first_there (take have buf) ≡ true → of_end n ≡ false) → Claims (over_next m) n have
over_claims next.Read n have buf a f = tt
over_claims next.Run n have buf a f = f a
over_claims next.Stopped n have buf a f = absurd a
over_claims (next.Ended e) n have buf a f = a
over_claims next.Failed n have buf a f = tt

pub first_claims : (L : Lent) (b : List ℕ) {w : Work} → Opened b w → (n : Option Stop) → beginning L (take w.have b) ≡ Err n → Claims (over_next w.next) n w.have
first_claims L b {w} o n q = over_claims w.next n w.have b o.asked (there_stopped L (take w.have b) n q)

module _ {L M : Lent} {b buf : List ℕ} {w x : Work} (o : Opened b w) (s : Starts L (take w.have b) w (Err x) M buf) where
  pub stops_whole : Whole L (take w.have b) w x M
  stops_whole =
      let p = take w.have b in
      let a = s.after scope.All in
      let e = a.0 in
      let q : beginning L p ≡ Err x.stop = sym s.says in
      let m : M ≡ L = s.tables ∙ ap (begun_tables L) q in
      let c : x.consumed ≡ 0 = ap (λ (y : Work). y.consumed) e ∙ ap (λ (y : Work). y.consumed) o.new in
      let n : x.next ≡ over_next w.next = ap (λ (y : Work). y.next) e in
      record {
        bytes = [];
        events = [];
        counted = let l : x.left ≡ w.left = ap (λ (y : Work). y.left) e in omega arith;
        written = ap (λ (y : Work). y.written) e ∙ ap (λ (y : Work). y.written) o.new;
        over = rw n (over_rests w.next);
        claims =
            let h : x.have ≡ w.have = ap (λ (y : Work). y.have) e in
            rw (n, h) (first_claims L b o x.stop q);
        final = λ z. (stopped_told x.next x.stop z).0 a.1;
        is = λ z d room h g. rw (append-nil, c, m) (run_halts room L (p ++ d) x.stop (stopped_more L p d x.stop q h));
        front = λ d room g. refl;
      }

-- ---- the turns behind it

put_together : (S : Settings) (n : Option Stop) (size eaten consumed : ℕ) (events : List ℕ) (u : Tables) (N : Lent) → size + (eaten + 0) ≡ consumed → N ≡ encode S u
    → bytes_then size [] (lent_result S (bytes_then eaten events (halt n u))) ≡ record { stop = n; consumed = consumed; events = events; tables = N }
put_together S n size eaten consumed events u N k e = rw (k, append-nil, e)

module _ {L M N : Lent} {p buf c : List ℕ} {w v r : Work} {S : Settings} (s : Starts L p w (Ok (S, v)) M buf)
    (rested : Rested S scope.All 65536 M (take v.have buf) v r c N) where
  -- the bytes of the settings record
  abbrev size : ℕ
  size = v.consumed

  q : beginning L p ≡ Ok (S, size)
  q = sym s.says

  fresh : Encodes S M (start S)
  fresh = record {
    range = (s.after scope.All).2.held.are.range;
    soundly = start-sound S;
    encoded = s.tables ∙ ap (begun_tables L) q;
  }

  abbrev came : Came S 65536 M (take v.have buf) v r (take r.have c) N
  came = rested.came

  went : Went S 65536 (start S) (drop size p ++ came.bytes) v r (take r.have c) N
  went = subst (λ (x : List ℕ). Went S 65536 (start S) (x ++ came.bytes) v r (take r.have c) N) (s.after scope.All).1 (came.on (start S) fresh)

  runs : (b : List ℕ) (room : ℕ) → length went.events + 65536 ≤ room
      → run room ((p ++ came.bytes) ++ b) L
      ≡ bytes_then size [] (lent_result S (bytes_then went.eaten went.events (run_from S 0 (room - length went.events) (take r.have c ++ b) went.tables)))
  runs b room h = rw (append_assoc p came.bytes b, opens_run L p (came.bytes ++ b) S size room q, ← append_assoc (drop size p) came.bytes b, went.goes b room h)

  begun : v ≡ begun_of size v.have w.left
  begun = (s.after scope.All).0

  pub rests_whole : Whole L p w r N
  rests_whole = record {
    bytes = came.bytes;
    events = went.events;
    counted = came.counted ∙ ap (λ (y : Work). y.left) begun;
    written = went.written ∙ ap (λ (n : ℕ). (n + length went.events) % 2 ^ 64) (ap (λ (y : Work). y.written) begun) ∙ rw zero-add;
    over = rested.over;
    claims = rested.claims;
    final = λ z. (stopped_told r.next r.stop z).0 rested.ready.sure;
    is = λ z b room h g.
        let u = went.tables in
        let halts = (stopped_told r.next r.stop z).1 S (take r.have c) u (rested.ready.before u went.are) in
        let e : run_from S 0 (room - length went.events) (take r.have c ++ b) u ≡ halt r.stop u = halts b (room - length went.events) h (omega arith) in
        let k : size + (went.eaten + 0) ≡ r.consumed = let a = went.consumed in omega arith in
        runs b room g
        ∙ ap (λ (o : RunResult Tables). bytes_then size [] (lent_result S (bytes_then went.eaten went.events o))) e
        ∙ put_together S r.stop size went.eaten r.consumed went.events u N k went.are.encoded;
    front = λ b room g. ap (λ (o : RunResult Lent). take (length went.events) o.events) (runs b room g) ∙ take-append_seam went.events _;
  }
