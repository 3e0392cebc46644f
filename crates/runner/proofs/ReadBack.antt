-- What a run writes reads back: the records in the bytes written are the events that the run tells, in order. Of any stream of bytes; of a
-- part that goes on, where the words of the slices are 32 bits.
use Rattle.std.specs.Prelude.{Option, Some, None}
use Rattle.words.proofs.General.{ℕ, zero, suc, ◌-◌, ◌≡◌, refl, sym, ap, ◌∙◌, ⊎_elim, true, List, [], ◌∷◌, ◌++◌, length, take, ltb, and_2, flag, by_flag, all_in, in_all, in_take}
use Rattle.model.specs.declared.Command.{Command}
use Rattle.model.proofs.Terms.{in_range, Tables, start, after, events_of, Lent, tables_of, sound, length_of, command_of, log_bytes, events_in, parsed, settings_of, first_stop, later_stop}
use Rattle.model.proofs.Terms.{kept_stop, goes_on, step_read, step_at, run_from, run, resume, Runs}
use Rattle.model.specs.RecordsOf as records
use Rattle.model.specs.RunnerOf as runner
use Rattle.model.specs.declared.Settings.{Settings}
use Rattle.model.specs.declared.Ran.{Ran}
use Rattle.model.proofs.Soundness.{start-sound}
use Rattle.model.proofs.RunSound.{bytes, record_keeps_sound}
use Rattle.model.proofs.Logs.{log_append}
use Rattle.encoding.proofs.DecodeIsSound.{Small}
use Rattle.encoding.proofs.RunGoesOn.{kept_is}
use Rattle.records.specs.Fitting.{AllFitting, CommandReadFits, stamped}
use Rattle.records.proofs.Reply.{fitting_append}
use Rattle.records.proofs.RoundTrip.{log_back}
use Rattle.records.proofs.Fits.{step_fits, step_stamped, command_read_fits}
use Rattle.records.proofs.OfCalls.{tables-stamped}
use Rattle.running.proofs.First.{first_settled}
use Rattle.runner.proofs.Cut.{written_are}
use Rattle.runner.specs.Told.{told_from, run_told, resume_told}

-- ---- the bytes are those of the events

module _ (S : Settings) where
  from_log : (n room : ℕ) (s : List ℕ) (t : Tables) → (run_from S n room s t).events ≡ log_bytes (told_from S n room s t)
  unfolding runner.run_from told_from records.log_bytes
  from_log n room [] t = refl
  from_log (suc n) room (b ∷ s) t = from_log n room s t
  from_log zero room (k ∷ s) t =
      let es = events_of (step_at S k s t) in
      let more = room - length (log_bytes es) in
      let u = after t (step_at S k s t) in
      ⊎_elim
      (λ z. rw z (ap (λ (l : List ℕ). log_bytes es ++ l) (from_log (length_of k) more s u) ∙ sym (log_append es (told_from S (length_of k) more s u))))
      (λ z. rw z)
      (flag (goes_on (later_stop room k s)))

run_log : (room : ℕ) (s : List ℕ) (L : Lent) → (run room s L).events ≡ log_bytes (run_told room s L)
unfolding runner.run run_told records.log_bytes
run_log room [] L = refl
run_log room (k ∷ s) L =
    ⊎_elim (λ z. rw z (from_log (settings_of k s) (length_of k) room s (start (settings_of k s)))) (λ z. rw z) (flag (goes_on (first_stop L k s)))

resume_log : (S : Settings) (room : ℕ) (s : List ℕ) (L : Lent) → (resume S room s L).events ≡ log_bytes (resume_told S room s L)
unfolding runner.resume resume_told records.log_bytes
resume_log S room s L = ⊎_elim (λ z. rw z (from_log S 0 room s (tables_of S L))) (λ z. rw z) (flag (goes_on (kept_stop S L)))

-- ---- the events fit

module _ (S : Settings) (range : in_range S ≡ true) where
  read_fits : (x : Option Command) (t : Tables) → sound S t ≡ true → stamped t ≡ true → AllFitting (events_of (step_read S x t))
  read_fits (Some c) t ok few = step_fits S c t range ok few
  read_fits None t ok few = (tt, tt)

  read-stamped : (x : Option Command) (t : Tables) → CommandReadFits x → stamped t ≡ true → stamped (after t (step_read S x t)) ≡ true
  read-stamped (Some c) t h few = step_stamped t few S c h
  read-stamped None t h few = few

  from_fits : (n room : ℕ) (s : List ℕ) (t : Tables) → bytes s ≡ true → sound S t ≡ true → stamped t ≡ true → AllFitting (told_from S n room s t)
  unfolding told_from runner.step_at
  from_fits n room [] t b ok few = tt
  from_fits (suc n) room (x ∷ s) t b ok few = from_fits n room s t (and_2 (ltb x 256) (bytes s) b) ok few
  from_fits zero room (k ∷ s) t b ok few =
      let c = and_2 (ltb k 256) (bytes s) b in
      let x = command_of k (take (length_of k) s) in
      let u = after t (step_read S x t) in
      let whole : bytes (take (length_of k) s) ≡ true = in_all (λ d. ltb d 256) (take (length_of k) s) (λ d i. all_in (λ d. ltb d 256) s c (in_take (length_of k) s d i)) in
      by_flag AllFitting (goes_on (later_stop room k s)) _ _
      (λ z. fitting_append (events_of (step_read S x t)) _ (read_fits x t ok few)
      (from_fits (length_of k) _ s u c (record_keeps_sound S range k s t c ok) (read-stamped x t (command_read_fits k (take (length_of k) s) whole) few)))
      (λ z. tt)

run_fits : (room : ℕ) (s : List ℕ) (L : Lent) → bytes s ≡ true → AllFitting (run_told room s L)
unfolding run_told
run_fits room [] L b = tt
run_fits room (k ∷ s) L b =
    by_flag AllFitting (goes_on (first_stop L k s)) _ _
    (λ z. from_fits (settings_of k s) (first_settled L k s z).range (length_of k) room s (start (settings_of k s)) (and_2 (ltb k 256) (bytes s) b) (start-sound (settings_of k s)) refl)
    (λ z. tt)

resume_fits : (S : Settings) (room : ℕ) (s : List ℕ) (L : Lent) → Small L → bytes s ≡ true → AllFitting (resume_told S room s L)
unfolding resume_told
resume_fits S room s L small b =
    by_flag AllFitting (goes_on (kept_stop S L)) _ _
    (λ z. let i = kept_is S L small z in from_fits S i.range 0 room s (tables_of S L) b i.soundly (tables-stamped S L small))
    (λ z. tt)

-- ---- so the bytes that a caller holds read back

module _ {e : List ℕ} {r : Ran} {f : List ℕ} {M : Lent} where
  pub run_reads_back : (s : List ℕ) (L : Lent) → bytes s ≡ true → Runs (run (length e) s L) e r f M
      → events_in (take r.written f) ≡ parsed (run_told (length e) s L)
  run_reads_back s L b u = ap events_in (written_are u ∙ run_log (length e) s L) ∙ log_back (run_told (length e) s L) (run_fits (length e) s L b)

  pub resume_reads_back : (S : Settings) (s : List ℕ) (L : Lent) → Small L → bytes s ≡ true → Runs (resume S (length e) s L) e r f M
      → events_in (take r.written f) ≡ parsed (resume_told S (length e) s L)
  resume_reads_back S s L small b u =
      ap events_in (written_are u ∙ resume_log S (length e) s L) ∙ log_back (resume_told S (length e) s L) (resume_fits S (length e) s L small b)
