-- The tables that a run of a stream of bytes leaves are sound.
use Rattle.std.specs.Prelude.{Option, Some, None}
use Rattle.words.proofs.General.{ℕ, zero, suc, ◌≤◌, ◌<◌, arith, ◌≡◌, refl, true, List, [], ◌∷◌, length, get_or, take, ltb, eqb, ltb-true, and_1, and_2, clash, by_flag, all_in}
use Rattle.model.specs.declared.Command.{Command}
use Rattle.words.proofs.General.{in_all, in_take}
use Rattle.model.proofs.Terms.{in_range, Tables, start, after, Lent, lengths_fit, all_ones, sound, is_command, is_settings, length_of, number_at, command_in, command_of, command_mask}
use Rattle.model.proofs.Terms.{settings_of, first_stop, later_stop, goes_on, step_read, step_at, RunResult, run_from, run, SoundSlices}
use Rattle.model.specs.RecordsOf as records
pub use Rattle.model.specs.Records.{bytes}
use Rattle.model.specs.RunnerOf as runner
use Rattle.model.specs.declared.Settings.{Settings}
use Rattle.model.specs.declared.Stop.{Stop}
use Rattle.model.proofs.Soundness.{start-sound, step_keeps_sound}

pub byte_at : (s : List ℕ) (i : ℕ) → bytes s ≡ true → get_or s i 0 < 256
byte_at [] i h = omega arith
byte_at (b ∷ s) zero h = ltb-true b 256 (and_1 (ltb b 256) (bytes s) h)
byte_at (b ∷ s) (suc i) h = byte_at s i (and_2 (ltb b 256) (bytes s) h)

pub bytes_take : (n : ℕ) (s : List ℕ) → bytes s ≡ true → bytes (take n s) ≡ true
bytes_take n s h = in_all (λ b. ltb b 256) (take n s) (λ b m. all_in (λ b. ltb b 256) s h (in_take n s b m))

-- a command's mask stands in four bytes
pub command_mask_small : (s : List ℕ) → bytes s ≡ true → number_at s 8 4 ≤ all_ones
unfolding number_at
command_mask_small s h = omega (arith, byte_at s 8 h, byte_at s 9 h, byte_at s 10 h, byte_at s 11 h)

abbrev pub SmallMask : Option Command → Type 0
SmallMask (Some c) = command_mask c ≤ all_ones
SmallMask None = Unit {0}

pub command_small : (k : ℕ) (b : List ℕ) → bytes b ≡ true → SmallMask (command_of k b)
unfolding records.command_of
command_small k b h =
    by_flag SmallMask (eqb (length b) (length_of k)) (command_in k b) None
    (λ e. by_flag SmallMask (is_settings k) _ _ (λ e. omega arith)
    (λ e. by_flag SmallMask (eqb k 1) _ _ (λ e. omega arith)
    (λ e. by_flag SmallMask (eqb k 2) _ _ (λ e. command_mask_small b h)
    (λ e. by_flag SmallMask (eqb k 3) _ _ (λ e. omega arith)
    (λ e. by_flag SmallMask (eqb k 4) _ _ (λ e. omega arith)
    (λ e. by_flag SmallMask (eqb k 5) _ _ (λ e. omega arith) (λ e. tt)))))))
    (λ e. tt)

module _ (S : Settings) (range : in_range S ≡ true) where
  read_keeps_sound : (c : Option Command) (t : Tables) → SmallMask c → sound S t ≡ true → sound S (after t (step_read S c t)) ≡ true
  read_keeps_sound (Some c) t h ok = step_keeps_sound S c t range h ok
  read_keeps_sound None t h ok = ok

  pub record_keeps_sound : (k : ℕ) (rest : List ℕ) (t : Tables) → bytes rest ≡ true → sound S t ≡ true
      → sound S (after t (step_at S k rest t)) ≡ true
  unfolding runner.step_at
  record_keeps_sound k rest t h ok =
      read_keeps_sound (command_of k (take (length_of k) rest)) t (command_small k (take (length_of k) rest) (bytes_take (length_of k) rest h)) ok

  pub run_from_keeps_sound : (n room : ℕ) (s : List ℕ) (t : Tables) → bytes s ≡ true → sound S t ≡ true
      → sound S (run_from S n room s t).tables ≡ true
  unfolding runner.run_from
  run_from_keeps_sound n room [] t h ok = ok
  run_from_keeps_sound (suc n) room (b ∷ s) t h ok = run_from_keeps_sound n room s t (and_2 (ltb b 256) (bytes s) h) ok
  run_from_keeps_sound zero room (k ∷ s) t h ok =
      by_flag (λ (o : RunResult Tables). sound S o.tables ≡ true) (goes_on (later_stop room k s)) _ _
      (λ e. run_from_keeps_sound (length_of k) _ s (after t (step_at S k s t)) (and_2 (ltb k 256) (bytes s) h)
      (record_keeps_sound k s t (and_2 (ltb k 256) (bytes s) h) ok))
      (λ e. ok)

-- a first record whose kind, settings and lent lengths pass
pub record Passes (k : ℕ) (S : Settings) (L : Lent) : Type 0 where
  pub kind : is_settings k ≡ true
  pub range : in_range S ≡ true
  pub fits : lengths_fit S L ≡ true

pub first_passes : (L : Lent) (k : ℕ) (s : List ℕ) → goes_on (first_stop L k s) ≡ true → Passes k (settings_of k s) L
unfolding runner.first_stop
first_passes L k s =
    by_flag Goes (is_command k) _ _
    (λ a. by_flag Goes (ltb (length s) (length_of k)) _ _ (λ b h. clash h refl)
    (λ b. by_flag Goes (is_settings k) _ _
    (λ c. by_flag Goes (in_range (settings_of k s)) _ _
    (λ d. by_flag Goes (lengths_fit (settings_of k s) L) _ _ (λ e h. record { kind = c; range = d; fits = e }) (λ e h. clash h refl))
    (λ d h. clash h refl))
    (λ c h. clash h refl)))
    (λ a h. clash h refl)
  where
    Goes : Option Stop → Type 0
    Goes n = goes_on n ≡ true → Passes k (settings_of k s) L

-- once its first record is accepted, a run leaves slices of sound tables
pub run_leaves_sound : (room k : ℕ) (s : List ℕ) (L : Lent) → bytes s ≡ true → goes_on (first_stop L k s) ≡ true
    → SoundSlices (settings_of k s) (run room (k ∷ s) L).tables
unfolding runner.run
run_leaves_sound room k s L h go =
    let S : Settings = settings_of k s in
    let range : in_range S ≡ true = (first_passes L k s go).range in
    record {
      tables = (run_from S (length_of k) room s (start S)).tables;
      are = record {
        range = range;
        soundly = run_from_keeps_sound S range (length_of k) room s (start S) h (start-sound S);
        encoded = rw go;
      };
    }
