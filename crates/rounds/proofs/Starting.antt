-- What the two calls come to: the refusals before the first round, then room for flags and events, then the rounds.
use Rattle.std.specs.Prelude.{Result, Ok, Err}
use Rattle.words.proofs.General.{ℕ, ◌/◌, ◌≤◌, ◌<◌, ◌≡◌, ◌∙◌, true, false, ◌&&◌, false≢true, List, length, leb, le-leb, lt-leb, and_i, and_no}
use Rattle.model.proofs.Terms.{mask_of, well_formed, Outcome, refused, done, Lent, all_ones, check_call, verdict_of, round_bytes}
use Rattle.model.specs.declared.Settings.{Settings}
use Rattle.model.specs.declared.Access.{Access}
use Rattle.model.specs.declared.Refusal.{Refusal}
use Rattle.model.specs.declared.Refusal.TheVariants.{BadAccess}
use Rattle.encoding.proofs.DecodeIsSound.{Small}
use Rattle.soundness.proofs.Verdicts.{passed_is}
use Rattle.layout.specs.declared.geometry.Geometry.{Geometry}
use Rattle.soundness.specs.Laid.{Checks}
use Rattle.soundness.proofs.Checked.{says_refused, says_passed, passed-held}
use Rattle.rounds.specs.declared.Went.{Went}
use Rattle.rounds.specs.declared.NotRun.TheVariants as unrun
use Rattle.rounds.specs.Demand3.{rounds_shown, room_for, start_call, rounds_call, flags_call, struck_call}
use Rattle.rounds.specs.Parts.{MayRun, RunsOn, StrikesOn}

-- ---- an outcome by its verdict

pub verdict_refused : (o : Outcome Lent) {n : Refusal} → verdict_of o ≡ Err n → o ≡ refused n
verdict_refused (refused k) e = cc
verdict_refused (done es M) e = absurd (false≢true (cc))

-- ---- before the first round

module _ (S : Settings) (x : Access) (L : Lent) where
  may_not : {n : Refusal} → start_call S x L ≡ refused n → MayRun S x L (Err n)
  may_not e = record {
    refuses = λ k q. e ∙ cc;
    passes = λ g q. absurd (false≢true (cc));
    own = λ g q. absurd (false≢true (cc));
    held = λ g q. absurd (false≢true (cc));
    small = λ g q. absurd (false≢true (cc));
  }

  module _ {v : Result Geometry Refusal} (checks : Checks S L v) where
    pub start-refused : {n : Refusal} → v ≡ Err n → MayRun S x L (Err n)
    start-refused is = may_not (rw (verdict_refused (check_call S L) (says_refused S L checks is)))

    module _ {g : Geometry} (is : v ≡ Ok g) where
      pub start-malformed : well_formed x ≡ false → MayRun S x L (Err BadAccess)
      start-malformed f = let (range, fits, soundly) = passed_is S L (says_passed S L checks is) in may_not (rw (range, fits, soundly, f))

      pub start-passed : Small L → well_formed x ≡ true → mask_of x ≤ all_ones → MayRun S x L (Ok g)
      start-passed small f few =
          let (range, fits, soundly) = passed_is S L (says_passed S L checks is) in
          record {
            refuses = λ n q. absurd (false≢true (cc));
            passes = λ h q. rw (range, fits, soundly, f);
            own = λ h q. let z : g ≡ h = cc in rw (← z) (checks.own g is);
            held = λ h q. let z : g ≡ h = cc in rw (← z, checks.own g is) (passed-held S L checks small is);
            small = λ h q. few;
          }

-- ---- what the check makes of the calls

module _ {S : Settings} {x : Access} {L : Lent} {v : Result Geometry Refusal} (m : MayRun S x L v) where
  -- ---- the rounds

  module _ (n : ℕ) (fl e : List ℕ) where
    pub rounds-refused : {k : Refusal} → v ≡ Err k → (rounds_shown (Err (unrun.Refused k)) L e ≡ rounds_call S x n L fl e) × (fl ≡ flags_call S x n L fl e)
    unfolding rounds_call flags_call
    rounds-refused {k} is = (rw (m.refuses k is), rw (m.refuses k is))

    module _ {g : Geometry} (is : v ≡ Ok g) where
      no_room : (leb n (length fl) && room_for n e) ≡ false → (rounds_shown (Err unrun.NoRoom) L e ≡ rounds_call S x n L fl e) × (fl ≡ flags_call S x n L fl e)
      unfolding rounds_call flags_call
      no_room h = let o = m.passes _ is in (rw (o, h), rw (o, h))

      pub few-flags : length fl < n → (rounds_shown (Err unrun.NoRoom) L e ≡ rounds_call S x n L fl e) × (fl ≡ flags_call S x n L fl e)
      few-flags h = no_room (rw (lt-leb n (length fl) h))

      pub few_bytes : length e / round_bytes < n → (rounds_shown (Err unrun.NoRoom) L e ≡ rounds_call S x n L fl e) × (fl ≡ flags_call S x n L fl e)
      few_bytes h = no_room (and_no (leb n (length fl)) (room_for n e) (lt-leb n (length e / round_bytes) h))

      pub rounds-ran : n ≤ length fl → n ≤ length e / round_bytes → {r : Went} {M : Lent} {gl f : List ℕ} → RunsOn g.settings x n L fl e r M gl f
          → (rounds_shown (Ok r) M f ≡ rounds_call S x n L fl e) × (gl ≡ flags_call S x n L fl e)
      unfolding rounds_call flags_call
      rounds-ran flags room t =
          let a = and_i (le-leb n (length fl) flags) (le-leb n (length e / round_bytes) room) in
          let o = m.passes _ is in
          let u = rw (m.own _ is) at t in
          (rw (o, a) u.shows, rw (o, a) u.flags)

  -- ---- the struck rounds

  module _ (fl e : List ℕ) where
    pub struck-refused : {k : Refusal} → v ≡ Err k → rounds_shown (Err (unrun.Refused k)) L e ≡ struck_call S x L fl e
    unfolding struck_call
    struck-refused {k} is = rw (m.refuses k is)

    module _ {g : Geometry} (is : v ≡ Ok g) where
      pub few-struck : length e / round_bytes < length fl → rounds_shown (Err unrun.NoRoom) L e ≡ struck_call S x L fl e
      unfolding struck_call
      few-struck h = let o = m.passes _ is in rw (o, lt-leb (length fl) (length e / round_bytes) h)

      pub struck-ran : length fl ≤ length e / round_bytes → {r : Went} {M : Lent} {f : List ℕ} → StrikesOn g.settings x L fl e r M f → rounds_shown (Ok r) M f ≡ struck_call S x L fl e
      unfolding struck_call
      struck-ran room t = let o = m.passes _ is in let u = rw (m.own _ is) at t in rw (o, le-leb (length fl) (length e / round_bytes) room) u.shows
