-- A record that is run, by its kind: the command in its body, and what its step leaves.
use Rattle.std.specs.Prelude.{Some, None}
use Rattle.words.proofs.General.{ℕ, ◌+◌, ◌≤◌, arith, ◌≡◌, refl, sym, ap, ◌∙◌, ◌⊎◌, inl, inr, ⊎_elim, List, length, take, eqb, eqb-false, eqb-true, eq-eqb, ne_eqb, or_no_1, flag}
use Rattle.model.proofs.Terms.{mask_of, Lent, all_ones, access, send, fill, tick, events_told, length_of, number_at, command_in, command_of, log_bytes, step_of, command_mask, SoundSlices}
use Rattle.model.proofs.Terms.{Does}
use Rattle.model.specs.RecordsOf as records
use Rattle.model.specs.declared.Settings.{Settings}
use Rattle.model.specs.declared.Access.{Access}
use Rattle.model.specs.declared.Access.TheVariants.{Read, Write}
use Rattle.model.specs.declared.Command.{Command}
use Rattle.model.specs.declared.Command.TheVariants as cmd
use Rattle.model.specs.declared.Reply.{Reply}
use Rattle.records.specs.Stores.{Laid}
use Rattle.records.proofs.Decoding.{command_sized}
use Rattle.records.proofs.Lengths.{settings_kinds_lem}
use Rattle.running.specs.Resume.{record_kind_at, rest_at, access_in, record_from, RecordReady, Resumes}
use Rattle.running.proofs.Tickets.{write_as}
use Rattle.running.proofs.Singles.{ready_going, ready_whole, body_long, record-runs}

lengths : (length_of 1 ≡ 12) × (length_of 2 ≡ 12) × (length_of 3 ≡ 0) × (length_of 4 ≡ 8) × (length_of 5 ≡ 4)
unfolding records.length_of
lengths = (refl, refl, refl, refl, refl)

module _ {s : List ℕ} {at out : ℕ} {e : List ℕ} (ready : RecordReady s at out e) where
  abbrev k : ℕ
  k = record_kind_at s at

  -- it is of a step
  access_kinds : k ≤ 2 → (k ≡ 1) ⊎ (k ≡ 2)
  access_kinds most =
      let z = eqb-false k 0 (or_no_1 (eqb k 0) (eqb k 6) (settings_kinds_lem k ∙ (ready_going ready).later)) in
      ⊎_elim (λ y. inl (eqb-true k 1 y)) (λ y. let n = eqb-false k 1 y in inr (omega arith)) (flag (eqb k 1))

  pub access_whole : k ≤ 2 → at + 13 ≤ length s
  access_whole most =
      let l : length_of k ≡ 12 = ⊎_elim (λ h. ap length_of h ∙ lengths.0) (λ h. ap length_of h ∙ lengths.1) (access_kinds most) in
      omega (arith, ready_whole ready)

  pub whole_at : (j : ℕ) → k ≡ j → at + 1 + length_of j ≤ length s
  whole_at j h = rw h at (ready_whole ready)

  module _ (j : ℕ) (h : k ≡ j) {b : List ℕ} (p : b ≡ take (length_of j) (rest_at s at)) where
    body_is : take (length_of k) (rest_at s at) ≡ b
    body_is = ap (λ (i : ℕ). take (length_of i) (rest_at s at)) h ∙ sym p

    body-size : length b ≡ length_of j
    body-size = sym (ap length body_is) ∙ body_long ready ∙ ap length_of h

    pub body_whole : at + 1 + length b ≤ length s
    body_whole = omega (arith, whole_at j h, body-size)

    command-is : command_of k (take (length_of k) (rest_at s at)) ≡ command_in j b
    command-is = command_sized k _ j h (body_long ready) ∙ ap (command_in j) body_is

  -- what is left where the record ends at n
  abbrev LeftBehind : Settings → Lent → ℕ → List ℕ → Lent → ℕ → Type 0
  LeftBehind S L w f M n = Resumes S (record_from S s at out e) s at out e L record { stop = None; consumed = n; written = w } f M

  -- the body of an access
  abbrev body : List ℕ
  body = take 12 (rest_at s at)

  module _ {S : Settings} {L : Lent} (held : SoundSlices S L) {reply : Reply} {M : Lent} {w : ℕ} {f : List ℕ}
      (laid : Laid e out (length (log_bytes (events_told reply))) (log_bytes (events_told reply)) w f) (size : length f ≡ length e) where
    command-runs : (j : ℕ) → k ≡ j → {b : List ℕ} → b ≡ take (length_of j) (rest_at s at) → (c : Command) → command_in j b ≡ Some c → command_mask c ≤ all_ones
        → Does S (step_of S c) L reply M → {n : ℕ} → n ≡ at + 1 + length_of j → LeftBehind S L w f M n
    command-runs j h p c read small d next = record-runs ready held c (command-is j h p ∙ read) small d laid size (rw h next)

    pub send-runs : Does S send L reply M → k ≡ 3 → LeftBehind S L w f M (at + 1)
    send-runs d h = command-runs 3 h refl cmd.Send refl (omega arith) d (omega (arith, lengths.2))

    pub fill-runs : {a : ℕ} → Does S (fill a) L reply M → k ≡ 4 → {b : List ℕ} → b ≡ take (length_of 4) (rest_at s at) → a ≡ number_at b 0 8 → LeftBehind S L w f M (at + 1 + length b)
    fill-runs {a} d h p q = command-runs 4 h p (cmd.Fill a) (ap (λ (x : ℕ). Some (cmd.Fill x)) (sym q)) (omega arith) d (omega (arith, body-size 4 h p))

    pub tick-runs : {c : ℕ} → Does S (tick c) L reply M → k ≡ 5 → {b : List ℕ} → b ≡ take (length_of 5) (rest_at s at) → c ≡ number_at b 0 4 → LeftBehind S L w f M (at + 1 + length b)
    tick-runs {c} d h p q = command-runs 5 h p (cmd.Tick c) (ap (λ (x : ℕ). Some (cmd.Tick x)) (sym q)) (omega arith) d (omega (arith, body-size 5 h p))

    module _ {x : Access} (d : Does S (access S x) L reply M) where
      read-runs : k ≡ 1 → x ≡ Read (number_at body 0 8) 0 (number_at body 8 4) → LeftBehind S L w f M (at + 13)
      read-runs h q = command-runs 1 h (rw lengths.0) (cmd.Read _ _) refl (omega arith) (rw q at d) (omega (arith, lengths.0))

      write-runs : k ≡ 2 → x ≡ Write (number_at body 0 8) (number_at body 8 4) (number_at body 8 4) → mask_of x ≤ all_ones → LeftBehind S L w f M (at + 13)
      write-runs h q small = command-runs 2 h (rw lengths.1) (cmd.Write _ _) refl (rw q at small) (write_as S _ _ _ _ (rw q at d)) (omega (arith, lengths.1))

      pub access-runs : k ≤ 2 → x ≡ access_in k body → mask_of x ≤ all_ones → LeftBehind S L w f M (at + 13)
      access-runs most q small =
          ⊎_elim (λ h. read-runs h (q ∙ rw (eq-eqb k 1 h))) (λ h. write-runs h (q ∙ rw (ne_eqb k 1 (λ z. omega arith))) small) (access_kinds most)
