-- A record by itself: one that stops; one that is run, from what the functions promise that do its step and write its events; one that is
-- tried.
use Rattle.std.specs.Prelude.{Option, Some, None}
use Rattle.words.proofs.General.{ℕ, ◌+◌, ◌-◌, ◌≤◌, add-zero, le_trans, arith, ◌≡◌, refl, sym, ap, ◌∙◌, true, false, List, append-nil, length, take, length-append, length-drop}
use Rattle.words.proofs.General.{take-append-drop, length-take-le, sets-eq, lit≤}
use Rattle.model.proofs.Terms.{in_range, Tables, after, events_of, Lent, sound, all_ones, events_told, length_of, command_of, log_bytes, fill_bytes, event_room, goes_on, later_stop, step_of}
use Rattle.model.proofs.Terms.{command_mask, step_read, step_at, RunResult, halt, Encodes, SoundSlices, Does}
use Rattle.model.specs.RunnerOf as runner
use Rattle.model.specs.declared.Settings.{Settings}
use Rattle.model.specs.declared.Command.{Command}
use Rattle.model.specs.declared.Refusal.TheVariants as refusal
use Rattle.model.specs.declared.Stop.{Stop}
use Rattle.model.specs.declared.Reply.{Reply}
use Rattle.encoding.proofs.Bridge.{does_tells, does_is}
use Rattle.model.proofs.Soundness.{step_keeps_sound}
use Rattle.records.specs.Stores.{Laid}
use Rattle.records.proofs.Room.{TakesRoom, refused_takes, step_takes}
use Rattle.running.specs.Resume.{record_kind_at, rest_at, single, record_from, RunAt, RecordReady, Resumes}
use Rattle.running.proofs.Running.{Going, going}

-- ---- the events of one step

-- at most 49 bytes: a fill with eight tickets
read_takes : (S : Settings) (x : Option Command) (t : Tables) → in_range S ≡ true → sound S t ≡ true → TakesRoom fill_bytes (step_read S x t)
read_takes S (Some c) t range ok = step_takes S c t range ok
read_takes S None t range ok = record { most = le_trans (refused_takes refusal.SettingOutOfRange).most (lit≤ tt) }

pub step_room : (S : Settings) (k : ℕ) (rest : List ℕ) (t : Tables) → in_range S ≡ true → sound S t ≡ true
    → length (log_bytes (events_of (step_at S k rest t))) ≤ fill_bytes
unfolding runner.step_at
step_room S k rest t range ok = (read_takes S (command_of k (take (length_of k) rest)) t range ok).most

-- ---- a record that stops, and one that is run

-- what halts leaves everything as it is
pub halts_here : {S : Settings} {o : Tables → RunResult Tables} {s : List ℕ} {at out : ℕ} {e : List ℕ} {L : Lent} {n : Option Stop} → RunAt s at out e
    → ((t : Tables) → o t ≡ halt n t) → Resumes S o s at out e L record { stop = n; consumed = at; written = out } e L
halts_here {S} {o} {s} {at} {out} {e} here halts =
    let long = length-take-le out e here.room in
    record {
      on = λ t i. rw (halts t) record {
        stop = refl;
        consumed = sym (add-zero at);
        written = sym (rw append-nil long);
        events = rw (append-nil, long) (sym (take-append-drop out e));
        tables = i.encoded;
      };
      keeps = λ t i. rw (halts t) i;
      stands = here;
    }

module _ (S : Settings) (s : List ℕ) (at out : ℕ) (e : List ℕ) (L : Lent) (here : RunAt s at out e)
    {n : Option Stop} (d : n ≡ later_stop (length e - out) (record_kind_at s at) (rest_at s at)) (stops : goes_on n ≡ false) where
  pub single_halts : Resumes S (record_from S s at out e) s at out e L record { stop = n; consumed = at; written = out } e L
  unfolding single
  single_halts = halts_here here (λ t. rw (← d, stops))

module _ {s : List ℕ} {at out : ℕ} {e : List ℕ} (ready : RecordReady s at out e) where
  pub ready_going : Going (length e - out) (record_kind_at s at) (rest_at s at)
  ready_going = going _ _ _ ready.goes

  pub ready_room : out + event_room ≤ length e
  ready_room = let g = ready_going.roomy in let r = ready.stands.room in omega arith

  pub ready_whole : at + 1 + length_of (record_kind_at s at) ≤ length s
  ready_whole =
      let w = ready_going.whole in
      let i = ready.inside in
      let l : length (rest_at s at) ≡ length s - (at + 1) = length-drop (at + 1) s in
      omega arith

  abbrev body : List ℕ
  body = take (length_of (record_kind_at s at)) (rest_at s at)

  pub body_long : length body ≡ length_of (record_kind_at s at)
  body_long = length-take-le (length_of (record_kind_at s at)) (rest_at s at) ready_going.whole

  module _ {S : Settings} {L : Lent} (held : SoundSlices S L) where
    ran : (t : Tables)
        → record_from S s at out e t
        ≡ record {
          stop = None;
          consumed = 1 + length_of (record_kind_at s at);
          events = log_bytes (events_of (step_at S (record_kind_at s at) (rest_at s at) t));
          tables = after t (step_at S (record_kind_at s at) (rest_at s at) t);
        }
    unfolding single
    ran t = rw ready.goes

    -- what the code does is the step of the command in the body; a mask of 32 bits is all that soundness asks of that
    module _ (c : Command) (read : command_of (record_kind_at s at) body ≡ Some c) (small : command_mask c ≤ all_ones)
        {reply : Reply} {M : Lent} (does : Does S (step_of S c) L reply M) where
      step_is : (t : Tables) → step_of S c t ≡ step_at S (record_kind_at s at) (rest_at s at) t
      unfolding runner.step_at
      step_is t = rw read

      reply-is : (t : Tables) → Encodes S L t → events_told reply ≡ events_of (step_at S (record_kind_at s at) (rest_at s at) t)
      reply-is t i = does_tells S does t i ∙ ap events_of (step_is t)

      reply-room : out + length (log_bytes (events_told reply)) ≤ length e
      reply-room =
          let i = held.are in
          let g = ready_room in
          let w = step_room S (record_kind_at s at) (rest_at s at) held.tables i.range i.soundly in
          rw (reply-is held.tables i) (omega arith)

      after_is : (t : Tables) → Encodes S L t → Encodes S M (after t (step_at S (record_kind_at s at) (rest_at s at) t))
      after_is t i = rw (← step_is t) (does_is S does t i (step_keeps_sound S c t i.range small i.soundly))

      pub record-runs : {w : ℕ} {f : List ℕ} → Laid e out (length (log_bytes (events_told reply))) (log_bytes (events_told reply)) w f → length f ≡ length e
          → {n : ℕ} → n ≡ at + 1 + length_of (record_kind_at s at)
          → Resumes S (record_from S s at out e) s at out e L record { stop = None; consumed = n; written = w } f M
      record-runs laid size next =
          let long = length-take-le out e ready.stands.room in
          let r = reply-room in
          let p = laid.next in
          record {
            on = λ t i. rw (ran t) record {
              stop = refl;
              consumed = omega arith;
              written = rw (← reply-is t i, length-append, long) p;
              events = rw (← reply-is t i, length-append, long) (laid.slice ∙ sets-eq (log_bytes (events_told reply)) e out r);
              tables = (after_is t i).encoded;
            };
            keeps = λ t i. rw (ran t) (after_is t i);
            stands = record { inside = let h = ready_whole in omega arith; room = omega arith };
          }
