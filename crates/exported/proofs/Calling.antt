-- What an exported call leaves: nothing where the event room is too small, else what the call left and the records of its value.
use Rattle.words.proofs.General.{ℕ, ◌+◌, ◌≤◌, ◌<◌, le_trans, arith, ◌≡◌, refl, sym, ap, ◌∙◌, Bool, true, false, List, [], ◌∷◌, length, set, lit≤, le-leb, lt-leb, ne_eqb}
use Rattle.model.proofs.Terms.{in_range, Tables, Outcome, after, events_of, Lent, sound, rule_of, access, call, encoded, Leaves, events_told, Call, offer, sending, filling, ticking}
use Rattle.model.proofs.Terms.{step_by, log_bytes, SoundSlices, Does}
use Rattle.model.specs.History as history
use Rattle.model.specs.declared.Settings.{Settings}
use Rattle.model.specs.declared.Reply.{Reply}
use Rattle.model.specs.declared.Access.{Access}
use Rattle.rounds.specs.declared.Waited.{Waited}
use Rattle.rounds.specs.Waiting.{wait_call, wait_within, Waits}
use Rattle.model.specs.declared.Command.TheVariants as cmd
use Rattle.model.proofs.Soundness.{call_keeps_sound}
use Rattle.encoding.proofs.DecodeIsSound.{Small}
use Rattle.encoding.proofs.Bridge.{call_is, events_encoded, does_is}
use Rattle.records.specs.Stores.{Stored, Laid}
use Rattle.records.proofs.Stores.{stored_there, stored-behind}
use Rattle.records.proofs.Room.{TakesRoom, access_takes, step_takes}
use Rattle.records.proofs.OfCalls.{call-room}
use Rattle.lending.proofs.Lending.{one_set}
use Rattle.exported.specs.Exported.{Called, Stepped, length_for, may_wait, round_number, WaitCalled}

pub call_unmade : (o : Outcome Lent) (L : Lent) (e : List ℕ) → length e < 64 → Called o L e 0 e L
call_unmade o L e h = record { written = rw (lt-leb 64 (length e) h); events = rw (lt-leb 64 (length e) h); left = rw (lt-leb 64 (length e) h) }

-- ---- a call takes 49 bytes at most

abbrev Short : Settings → (Tables → Outcome Tables) → Type 0
Short S step = (t : Tables) → in_range S ≡ true → sound S t ≡ true → TakesRoom 49 (step t)

pub call-short : (S : Settings) (k : Call) → Short S (step_by S k)
call-short S (offer x) t range ok = record { most = le_trans (access_takes S x t).most (lit≤ tt) }
call-short S sending t range ok = step_takes S cmd.Send t range ok
call-short S (filling a) t range ok = step_takes S (cmd.Fill a) t range ok
call-short S (ticking c) t range ok = step_takes S (cmd.Tick c) t range ok

-- so the room suffices for all of it
module _ (o : Outcome Lent) (L : Lent) (e : List ℕ) (reply : Reply) (room : 64 ≤ length e) (short : length (log_bytes (events_of o)) ≤ 49) where
  call-written : {r : ℕ} {f : List ℕ} {M : Lent} → Leaves o L reply M → Stored e 0 (log_bytes (events_told reply)) r f → Called o L e r f M
  call-written l s =
      let b = le-leb 64 (length e) room in
      let (count, slice) = stored-behind [] e (log_bytes (events_of o)) (rw l.tells at s) (omega arith) in
      record { written = rw b count; events = rw b slice; left = rw b l.left }

abbrev out_by : Settings → Call → Lent → Outcome Lent
out_by S k L = call S (step_by S k) L

-- of settings s, which are those lent as S
module _ (k : Call) where
  pub call_made : {S s : Settings} {L : Lent} {e : List ℕ} {reply : Reply} {r : ℕ} {f : List ℕ} {M : Lent} → Small L → s ≡ S → 64 ≤ length e
      → Leaves (call s (step_by s k) L) L reply M → Stored e 0 (log_bytes (events_told reply)) r f → Called (out_by S k L) L e r f M
  call_made {S} {s} {L} {e} {reply} small same room l u = call-written (out_by S k L) L e reply room (call-room S (step_by S k) L small (call-short S k)) (rw same at l) u

  -- a step without the check leaves what the call leaves, and sound tables again
  pub step_made : history.SmallCall k → {S s : Settings} {L : Lent} {e : List ℕ} {reply : Reply} {r : ℕ} {f : List ℕ} {M : Lent} → s ≡ S → SoundSlices S L → 64 ≤ length e
      → Does s (step_by s k) L reply M → Laid e 0 (length (log_bytes (events_told reply))) (log_bytes (events_told reply)) r f → Stepped S (out_by S k L) L e r f M
  unfolding access
  step_made small {S} {s} {L} {e} {reply} {r} {f} {M} same held room does u =
      let t = held.tables in
      let i = held.are in
      let d : Does S (step_by S k) L reply M = rw same at does in
      let q : out_by S k L ≡ encoded S (step_by S k t) = call_is S L t i (step_by S k) in
      let n : length (log_bytes (events_of (out_by S k L))) ≤ 49 = rw (q, events_encoded S (step_by S k t)) (call-short S k t i.range i.soundly).most in
      let left : Leaves (out_by S k L) L reply M = rw q (d.on t i) in
      let short : length (log_bytes (events_told reply)) ≤ 49 = rw left.tells n in
      let size : r ≡ length (log_bytes (events_told reply)) = omega (arith, u.next) in
      record {
        called = call-written (out_by S k L) L e reply room n left (stored_there e 0 (log_bytes (events_told reply)) size (sym (le-leb (0 + r) (length e) (omega arith))) refl u);
        held = record { tables = after t (step_by S k t); are = does_is S d t i (call_keeps_sound (rule_of S) S k t i.range small i.soundly) };
      }

pub held_as : {S s : Settings} {L : Lent} → s ≡ S → SoundSlices S L → SoundSlices s L
held_as same held = rw same held

pub step_unmade : (S : Settings) (o : Outcome Lent) (L : Lent) (e : List ℕ) → SoundSlices S L → length e < 64 → Stepped S o L e 0 e L
step_unmade S o L e held h = record { called = call_unmade o L e h; held = held }

-- ---- a length by the settings s, which are those lent as S

module _ (f : Settings → ℕ) (S s : Settings) {b : Bool} (same : s ≡ S) (tested : b ≡ in_range s) where
  pub length-given : b ≡ true → {r : ℕ} → r ≡ f s → r ≡ length_for S (f S)
  length-given h q = rw (← same, sym tested ∙ h) q

  pub length_none : b ≡ false → 0 ≡ length_for S (f S)
  length_none h = rw (← same, sym tested ∙ h)

-- ---- wait, with the accepting round in a slice of one number

module _ (S : Settings) (x : Access) (L : Lent) (e k : List ℕ) where
  pub wait_no_round : (length k ≡ 1 → ⊥) → WaitCalled (wait_call S x L) L e k 0 e k L
  wait_no_round h = let q = ne_eqb (length k) 1 h in record { written = rw q; events = rw q; round = rw q; left = rw q }

  module _ (one : length k ≡ 1) where
    pub wait-no-room : length e < 9600 → WaitCalled (wait_call S x L) L e k 0 e k L
    wait-no-room h = let q : may_wait e k ≡ false = rw (one, lt-leb 9600 (length e) h) in record { written = rw q; events = rw q; round = rw q; left = rw q }

    pub wait-made : 9600 ≤ length e → {s : Settings} → s ≡ S → {y : Access} → y ≡ x → {r : Waited} {f : List ℕ} {M : Lent} → Waits (wait_within (length e) s y L) e r f M
        → {n : ℕ} → n ≡ round_number r.waiting → WaitCalled (wait_call S x L) L e k r.written f (set k 0 n) M
    wait-made h same offered {r} w {n} g =
        let b = le-leb 9600 (length e) h in
        let v = rw (same, offered, b) at w in
        let q : may_wait e k ≡ true = rw (one, b) in
        let s : set k 0 n ≡ round_number (wait_call S x L).waiting ∷ [] = one_set k n one ∙ ap (λ (m : ℕ). m ∷ []) (g ∙ ap round_number v.waiting) in
        record { written = rw q v.written; events = rw q v.events; round = rw q s; left = rw q v.left }
