-- "A run may also go on from kept tables and settings with the next part of the stream; cut between any two records, where the part before
-- stopped with 0 and nothing stops with 16, the events and tables are those of one run." Each part has a room of its own, and so has the
-- one run; the bytes consumed and the stop are those of one run too.
use Rattle.std.specs.Prelude.{Some}
use Rattle.words.proofs.General.{ℕ, ◌+◌, ◌≤◌, add_assoc, arith, ◌≡◌, refl, sym, ap, ◌∙◌, true, List, [], ◌∷◌, ◌++◌, length, take, drop, length-append, drop-append-le}
use Rattle.words.proofs.General.{take-append_seam}
use Rattle.model.proofs.Terms.{in_range, Tables, start, Lent, tables_of, encode, sound, bytes, length_of, settings_of, first_stop, kept_stop, goes_on, RunResult, bytes_then, run_from}
use Rattle.model.proofs.Terms.{lent_result, run, resume, Runs}
use Rattle.model.specs.RunnerOf as runner
use Rattle.model.specs.declared.Settings.{Settings}
use Rattle.model.specs.declared.Stop.TheVariants.{NoRoom}
use Rattle.model.specs.declared.Ran.{Ran}
use Rattle.model.proofs.Soundness.{start-sound}
use Rattle.model.proofs.RunSound.{run_from_keeps_sound}
use Rattle.encoding.proofs.DecodeIsSound.{Small}
use Rattle.encoding.proofs.RunGoesOn.{kept_is, resume-goes, resume-is}
use Rattle.running.proofs.First.{first_settled, run-accepts}
use Rattle.running.proofs.Running.{run_skips}
use Rattle.running.proofs.Parts.{goes_first, settings_more, first_more, run_cut}

-- ---- on tables

ahead_twice : (m n : ℕ) (es : List ℕ) (o : RunResult Lent) → bytes_then m [] (bytes_then n es o) ≡ bytes_then (m + n) es o
ahead_twice m n es o = rw add_assoc

module _ (S : Settings) (range : in_range S ≡ true) (t : Tables) (room before behind : ℕ) (a b : List ℕ) where
  -- the part before
  abbrev part_run : RunResult Tables
  part_run = run_from S 0 before a t

  -- the part behind it, on the slices that it left
  abbrev rest : RunResult Lent
  rest = resume S behind b (encode S part_run.tables)

  cut : sound S part_run.tables ≡ true → goes_on part_run.stop ≡ true → (rest.stop ≡ Some NoRoom → ⊥) → ((run_from S 0 room (a ++ b) t).stop ≡ Some NoRoom → ⊥)
      → lent_result S (run_from S 0 room (a ++ b) t) ≡ bytes_then part_run.consumed part_run.events rest
  cut ok e g h =
      let r = resume-is S behind b (encode S part_run.tables) part_run.tables record { range = range; soundly = ok; encoded = refl } in
      ap (lent_result S) (run_cut S room before behind a b t e (λ q. g (ap (λ (o : RunResult Lent). o.stop) r ∙ q)) h)
      ∙ ap (bytes_then part_run.consumed part_run.events) (sym r)

-- ---- what stopped with 0 passed its checks

resume-passed : (S : Settings) (room : ℕ) (s : List ℕ) (L : Lent) → goes_on (resume S room s L).stop ≡ true → goes_on (kept_stop S L) ≡ true
unfolding runner.resume
resume-passed S room s L e = goes_first (kept_stop S L) _ L e

run-passed : (room k : ℕ) (s : List ℕ) (L : Lent) → goes_on (run room (k ∷ s) L).stop ≡ true → goes_on (first_stop L k s) ≡ true
unfolding runner.run
run-passed room k s L e = goes_first (first_stop L k s) _ L e

-- ---- a part that goes on, and the next one

module _ (S : Settings) (room before behind : ℕ) (a b : List ℕ) (L : Lent) where
  pub resume_then : Small L → bytes a ≡ true → goes_on (resume S before a L).stop ≡ true
      → ((resume S behind b (resume S before a L).tables).stop ≡ Some NoRoom → ⊥) → ((resume S room (a ++ b) L).stop ≡ Some NoRoom → ⊥)
      → resume S room (a ++ b) L
      ≡ bytes_then (resume S before a L).consumed (resume S before a L).events (resume S behind b (resume S before a L).tables)
  resume_then small bs e g h =
      let t = tables_of S L in
      let z = resume-passed S before a L e in
      let is = kept_is S L small z in
      let p = resume-goes S before a L z in
      let q = resume-goes S room (a ++ b) L z in
      rw p
      (q
      ∙ cut S is.range t room before behind a b (run_from_keeps_sound S is.range 0 before a t bs is.soundly)
      (ap (λ (x : RunResult Lent). goes_on x.stop) (sym p) ∙ e)
      (λ f. g (ap (λ (x : RunResult Lent). (resume S behind b x.tables).stop) p ∙ f))
      (λ f. h (ap (λ (x : RunResult Lent). x.stop) q ∙ f)))

-- ---- a run, and a part that goes on

module _ (room before behind k : ℕ) (a b : List ℕ) (L : Lent) where
  abbrev S : Settings
  S = settings_of k a

  pub run_then : bytes a ≡ true → goes_on (run before (k ∷ a) L).stop ≡ true
      → ((resume S behind b (run before (k ∷ a) L).tables).stop ≡ Some NoRoom → ⊥) → ((run room (k ∷ (a ++ b)) L).stop ≡ Some NoRoom → ⊥)
      → run room (k ∷ (a ++ b)) L
      ≡ bytes_then (run before (k ∷ a) L).consumed (run before (k ∷ a) L).events (resume S behind b (run before (k ∷ a) L).tables)
  run_then bs e g h =
      let n = length_of k in
      let z = run-passed before k a L e in
      let st = first_settled L k a z in
      let w : n ≤ length a = st.whole in
      let more : n ≤ length (a ++ b) = rw length-append (omega arith) in
      let o = run_from S 0 before (drop n a) (start S) in
      let skipped = run_skips S n before a (start S) w in
      let p : run before (k ∷ a) L ≡ bytes_then (1 + n) [] (lent_result S o) = rw (run-accepts before L k a z, skipped) in
      let q : run room (k ∷ (a ++ b)) L ≡ bytes_then (1 + n) [] (lent_result S (run_from S 0 room (drop n a ++ b) (start S))) =
      run-accepts room L k (a ++ b) (rw (first_more L k a b w) z)
      ∙ ap (λ (S : Settings). bytes_then (1 + n) [] (lent_result S (run_from S n room (a ++ b) (start S)))) (settings_more k a b w)
      ∙ rw (run_skips S n room (a ++ b) (start S) more, drop-append-le n a b w) in
      let ok : sound S o.tables ≡ true =
      ap (λ (x : RunResult Tables). sound S x.tables) (sym skipped) ∙ run_from_keeps_sound S st.range n before a (start S) bs (start-sound S) in
      let c = cut S st.range (start S) room before behind (drop n a) b ok
      (ap (λ (x : RunResult Lent). goes_on x.stop) (sym p) ∙ e)
      (λ f. g (ap (λ (x : RunResult Lent). (resume S behind b x.tables).stop) p ∙ f))
      (λ f. h (ap (λ (x : RunResult Lent). x.stop) q ∙ f)) in
      rw p (q ∙ ap (bytes_then (1 + n) []) c ∙ ahead_twice (1 + n) o.consumed o.events (resume S behind b (encode S o.tables)))

-- ---- the same of what the callers hold: of a run on the first part, `resume` on the second with the slices that the first left, and one
-- run on both, each with event bytes of its own

pub record AsOne (r₁ r₂ r : Ran) (f₁ f₂ f : List ℕ) (M₂ M : Lent) : Type 0 where
  pub stop : r.stop ≡ r₂.stop
  pub consumed : r.consumed ≡ r₁.consumed + r₂.consumed
  pub events : take r.written f ≡ take r₁.written f₁ ++ take r₂.written f₂
  pub tables : M ≡ M₂

-- the events that were written
pub written_are : {o : RunResult Lent} {e : List ℕ} {r : Ran} {f : List ℕ} {M : Lent} → Runs o e r f M → take r.written f ≡ o.events
written_are {o} {e} {r} u = rw (u.written, u.events) (take-append_seam o.events (drop (length o.events) e))

module _ (k : ℕ) (a b : List ℕ) (L : Lent) {M₁ M₂ M : Lent} {e₁ e₂ e f₁ f₂ f : List ℕ} {r₁ r₂ r : Ran}
    (first : Runs (run (length e₁) (k ∷ a) L) e₁ r₁ f₁ M₁)
    (second : Runs (resume (settings_of k a) (length e₂) b M₁) e₂ r₂ f₂ M₂)
    (one : Runs (run (length e) (k ∷ (a ++ b)) L) e r f M) where
  pub two_parts_as_one : bytes a ≡ true → goes_on r₁.stop ≡ true → (r₂.stop ≡ Some NoRoom → ⊥) → (r.stop ≡ Some NoRoom → ⊥) → AsOne r₁ r₂ r f₁ f₂ f M₂ M
  two_parts_as_one bs go roomy whole =
      let left : resume (settings_of k a) (length e₂) b M₁ ≡ resume (settings_of k a) (length e₂) b (run (length e₁) (k ∷ a) L).tables =
      ap (resume (settings_of k a) (length e₂) b) first.tables in
      let q = run_then (length e) (length e₁) (length e₂) k a b L bs
      (ap goes_on (sym first.stop) ∙ go)
      (λ x. roomy (second.stop ∙ ap (λ (o : RunResult Lent). o.stop) left ∙ x))
      (λ x. whole (one.stop ∙ x)) in
      let o₁ = run (length e₁) (k ∷ a) L in
      let o₂ = resume (settings_of k a) (length e₂) b M₁ in
      let w : run (length e) (k ∷ (a ++ b)) L ≡ bytes_then o₁.consumed o₁.events o₂ = q ∙ sym (ap (bytes_then o₁.consumed o₁.events) left) in
      record {
        stop = one.stop ∙ ap (λ (o : RunResult Lent). o.stop) w ∙ sym second.stop;
        consumed = one.consumed ∙ ap (λ (o : RunResult Lent). o.consumed) w ∙ (rw (first.consumed, second.consumed));
        events = written_are one ∙ ap (λ (o : RunResult Lent). o.events) w ∙ (rw (written_are first, written_are second));
        tables = one.tables ∙ ap (λ (o : RunResult Lent). o.tables) w ∙ sym second.tables;
      }
