-- The events, the tables, the stop and the bytes consumed of a run are those of the separate public calls, record by record, for any
-- stream of bytes; the same of a run that goes on.
use Rattle.std.specs.Prelude.{Option, Some, None}
use Rattle.words.proofs.General.{ℕ, zero, suc, ◌-◌, ◌≡◌, refl, ap, ◌∙◌, ⊎_elim, true, List, [], ◌∷◌, length, take, ltb, and_2, flag}
use Rattle.model.specs.declared.Command.{Command}
use Rattle.model.proofs.Terms.{in_range, Tables, start, after, events_of, Lent, lengths_fit, tables_of, encode, Small, access, send, fill, tick, encoded, fresh_call, bytes, length_of}
use Rattle.model.proofs.Terms.{command_of, log_bytes, settings_of, first_stop, later_stop, kept_stop, goes_on, step_read, step_at, halt, run_from, lent_result, run, resume, call_read, call_at}
use Rattle.model.proofs.Terms.{calls_from, run_by_calls, resume_by_calls, Encodes}
use Rattle.model.specs.RunnerOf as runner
use Rattle.model.specs.declared.Settings.{Settings}
use Rattle.model.specs.declared.Access.TheVariants.{Read, Write}
use Rattle.model.specs.declared.Command.TheVariants as cmd
use Rattle.model.proofs.Soundness.{start-sound}
use Rattle.model.proofs.RunSound.{record_keeps_sound, first_passes}
use Rattle.encoding.proofs.Bridge.{call_is, after_encoded, events_encoded}
use Rattle.encoding.proofs.RunGoesOn.{kept_is}

-- ---- one record

module _ (S : Settings) (L : Lent) (t : Tables) (is : Encodes S L t) where
  call-read : (c : Option Command) → call_read S c L ≡ encoded S (step_read S c t)
  call-read (Some (cmd.Read a k)) = call_is S L t is (access S (Read a 0 k))
  call-read (Some (cmd.Write a m)) = call_is S L t is (access S (Write a m 0))
  call-read (Some cmd.Send) = call_is S L t is send
  call-read (Some (cmd.Fill a)) = call_is S L t is (fill a)
  call-read (Some (cmd.Tick c)) = call_is S L t is (tick c)
  call-read (Some (cmd.Settings g)) = refl
  call-read None = refl

-- ---- the records of a stream

module _ (S : Settings) where
  pub calls_from_lem : (n room : ℕ) (s : List ℕ) (L : Lent) (t : Tables) → bytes s ≡ true → Encodes S L t
      → calls_from S n room s L ≡ lent_result S (run_from S n room s t)
  unfolding calls_from runner.run_from call_at runner.step_at
  calls_from_lem n room [] L t h is = ap (halt None) is.encoded
  calls_from_lem (suc n) room (b ∷ bs) L t h is = calls_from_lem n room bs L t (and_2 (ltb b 256) (bytes bs) h) is
  calls_from_lem zero room (k ∷ bs) L t h is =
      let o = step_at S k bs t in
      let c : call_at S k bs L ≡ encoded S o = call-read S L t is (command_of k (take (length_of k) bs)) in
      let es : events_of (call_at S k bs L) ≡ events_of o = ap events_of c ∙ events_encoded S o in
      let m : after L (call_at S k bs L) ≡ encode S (after t o) = ap (after L) c ∙ after_encoded S L t o is.encoded in
      let g = and_2 (ltb k 256) (bytes bs) h in
      let then : Encodes S (after L (call_at S k bs L)) (after t o) =
      record { range = is.range; soundly = record_keeps_sound S is.range k bs t g is.soundly; encoded = m } in
      let i = calls_from_lem (length_of k) (room - length (log_bytes (events_of o))) bs (after L (call_at S k bs L)) (after t o) g then in
      ⊎_elim
      (λ z. rw z (rw (es, i)))
      (λ z. rw z (ap (halt (later_stop room k bs)) is.encoded))
      (flag (goes_on (later_stop room k bs)))

-- ---- the first record

pub fresh_is : (S : Settings) (L : Lent) → in_range S ≡ true → lengths_fit S L ≡ true → Encodes S (after L (fresh_call S L)) (start S)
fresh_is S L range fits = record { range = range; soundly = start-sound S; encoded = rw (range, fits) }

-- ---- the theorems

pub run_is_calls : (room : ℕ) (s : List ℕ) (L : Lent) → bytes s ≡ true → run room s L ≡ run_by_calls room s L
unfolding runner.run run_by_calls
run_is_calls room [] L h = refl
run_is_calls room (k ∷ bs) L h =
    ⊎_elim
    (λ z.
    let S = settings_of k bs in
    let p = first_passes L k bs z in
    let i = calls_from_lem S (length_of k) room bs (after L (fresh_call S L)) (start S) (and_2 (ltb k 256) (bytes bs) h) (fresh_is S L p.range p.fits) in
    rw (z, i))
    (λ z. rw z)
    (flag (goes_on (first_stop L k bs)))

pub resume_is_calls : (S : Settings) (room : ℕ) (s : List ℕ) (L : Lent) → bytes s ≡ true → Small L → resume S room s L ≡ resume_by_calls S room s L
unfolding runner.resume resume_by_calls
resume_is_calls S room s L h small =
    ⊎_elim
    (λ z. rw (z, calls_from_lem S 0 room s L (tables_of S L) h (kept_is S L small z)))
    (λ z. rw z)
    (flag (goes_on (kept_stop S L)))
