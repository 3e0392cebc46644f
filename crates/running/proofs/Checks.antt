-- The checks at a record, by what reading it came to; its body and the place behind it.
use Rattle.model.specs.RecordsOf.{whole_record}
use Rattle.model.specs.declared.Body.{Body}
use Rattle.std.specs.Prelude.{Result, Ok, Err, Option, Some, None}
use Rattle.std.specs.Result.{result_err}
use Rattle.words.proofs.General.{ℕ, ◌+◌, ◌-◌, ◌≤◌, ◌<◌, arith, ◌≡◌, refl, sym, ◌∙◌, Bool, true, false, not, ◌&&◌, ◌||◌, List, length, take, length-drop, ltb, leb, eqb, not-true}
use Rattle.words.proofs.General.{not-false, ne_eqb, lt-ltb, le-ltb, le-leb, lt-leb, leb-true, pick, and_1, and_2, clash}
use Rattle.model.proofs.Terms.{stop_number, is_command, is_settings, length_of, read_at, body_at, event_room, record_stop, room_stop, later_stop, goes_on}
use Rattle.model.specs.RecordsOf as records
use Rattle.model.specs.RunnerOf as runner
use Rattle.model.specs.declared.Stop.{Stop}
use Rattle.model.specs.declared.Stop.TheVariants.{OutOfPlace, UnknownKind, CutShort}
use Rattle.records.proofs.Lengths.{command_kinds_lem, settings_kinds_lem, body_short}
use Rattle.records.proofs.Reading.{read_cut, read_whole}
use Rattle.reader.specs.Taken.{behind}
use Rattle.running.specs.Resume.{record_kind_at, rest_at, is_step, head_stop, found_stop, later_found, RecordReady, UsualAt}
use Rattle.running.proofs.Running.{by_record}

-- ---- the tests that the code makes at a head

no_command : (k : ℕ) (f : Result Body Stop) → is_command k ≡ false → head_stop k f ≡ Some UnknownKind
unfolding head_stop
no_command k (Ok b) e = rw e
no_command k (Err r) e = rw e

of_command : (k : ℕ) (f : Result Body Stop) → is_command k ≡ true → result_err f ≡ head_stop k f
unfolding head_stop
of_command k (Ok b) e = rw e
of_command k (Err r) e = rw e

module _ (k : ℕ) (f : Result Body Stop) {b : Bool} (known : b ≡ is_command k) where
  pub head_unknown : not b ≡ true → Some UnknownKind ≡ head_stop k f
  head_unknown h = sym (no_command k f (sym known ∙ not-true b h))

  pub head_known : not b ≡ false → {r : Option Stop} → r ≡ result_err f → r ≡ head_stop k f
  head_known h e = e ∙ of_command k f (sym known ∙ not-false b h)

-- ---- and behind it

pub found_stopped : (k : ℕ) (f : Result Body Stop) (a b : Option Stop) {n : Option Stop} → n ≡ head_stop k f → goes_on n ≡ false → n ≡ found_stop k f a b
unfolding found_stop
found_stopped k f a b d h = rw (← d, h)

pub found_asked : {v : Bool} (k : ℕ) (f : Result Body Stop) (a b : Option Stop) {n : Option Stop} → n ≡ head_stop k f → goes_on n ≡ true → {c : Bool} → c ≡ is_settings k → c ≡ v
    → pick v a b ≡ found_stop k f a b
unfolding found_stop
found_asked k f a b d goes settings h = rw (← d, goes, ← settings, h)

-- ---- the kinds of the steps, as the code tells them

step_by : (k : ℕ) → is_step k ≡ (ltb k 7 && not (eqb k 0 || eqb k 6))
step_by k = rw (command_kinds_lem k, settings_kinds_lem k)

pub step_kind : (k : ℕ) → 1 ≤ k → k ≤ 5 → is_step k ≡ true
step_kind k least most = step_by k ∙ (rw (lt-ltb k 7 (omega arith), ne_eqb k 0 (λ q. omega arith), ne_eqb k 6 (λ q. omega arith)))

pub step_of : {k : ℕ} (j : ℕ) → k ≡ j → (leb 1 j && leb j 5) ≡ true → is_step k ≡ true
step_of j e test = rw e (step_kind j (leb-true 1 j (and_1 (leb 1 j) (leb j 5) test)) (leb-true j 5 (and_2 (leb 1 j) (leb j 5) test)))

pub access_kind : (k : ℕ) → (leb 1 k && leb k 2) ≡ true → (is_step k ≡ true) × (k ≤ 2)
access_kind k test =
    let least = leb-true 1 k (and_1 (leb 1 k) (leb k 2) test) in
    let most = leb-true k 2 (and_2 (leb 1 k) (leb k 2) test) in
    (step_kind k least (omega arith), most)

-- and its record has at most thirteen bytes
pub step_short : (k : ℕ) → is_step k ≡ true → length_of k ≤ 12
step_short k step = body_short k (and_1 (is_command k) (not (is_settings k)) step)

-- ---- the head as the definitions have it: 14, then 15, then whatever is asked next

module _ (s : List ℕ) (at : ℕ) (inside : at < length s) where
  abbrev k : ℕ
  k = record_kind_at s at

  left : length (rest_at s at) ≡ length s - (at + 1)
  left = length-drop (at + 1) s

  read_as : is_command k ≡ true → length_of k ≤ length (rest_at s at) → read_at s at ≡ whole_record k (at + 1) (length_of k) (at + 1 + length_of k)
  read_as c w = let m = body_short k c in let l = left in sym (read_whole s at (length_of k) inside refl (λ q. omega arith) (omega arith))

  whole_head : is_command k ≡ true → length_of k ≤ length (rest_at s at) → head_stop k (read_at s at) ≡ None
  unfolding head_stop
  whole_head c w = rw (read_as c w, c)

  cut_head : is_command k ≡ true → length (rest_at s at) < length_of k → head_stop k (read_at s at) ≡ Some CutShort
  unfolding head_stop
  cut_head c w = let m = body_short k c in let l = left in rw (← read_cut s at (length_of k) inside refl (λ q. omega arith) (omega arith), c)

  -- a step's record that is whole and has room goes on
  pub usual_goes : (room : ℕ) → is_step k ≡ true → at + 1 + length_of k ≤ length s → event_room ≤ room → goes_on (later_stop room k (rest_at s at)) ≡ true
  unfolding runner.later_stop
  usual_goes room step whole roomy =
      let c : is_command k ≡ true = and_1 (is_command k) (not (is_settings k)) step in
      let z : is_settings k ≡ false = not-true (is_settings k) (and_2 (is_command k) (not (is_settings k)) step) in
      let l = left in
      rw (c, le-ltb (length (rest_at s at)) (length_of k) (omega arith), z, le-ltb room event_room roomy)

  module _ {f : Result Body Stop} (read : f ≡ read_at s at) where
    -- it is all there, or no command's: it is not cut short
    pub head-there : {n : Option Stop} {m : ℕ} → n ≡ head_stop k f → m ≡ stop_number n → not (eqb m 15) ≡ (not (is_command k) || leb (length_of k) (length (rest_at s at)))
    head-there d e =
        rw (e, d, read)
        (by_record (λ n. not (eqb (stop_number (head_stop k (read_at s at))) 15) ≡ (not (is_command k) || leb (length_of k) (length (rest_at s at)))) k (rest_at s at) {a = None} {b = None}
        (λ c. rw (no_command k (read_at s at) c, c)) (λ c w. rw (cut_head c w, c, lt-leb _ _ w)) (λ c w z. rw (whole_head c w, c, le-leb _ _ w)) (λ c w z. rw (whole_head c w, c, le-leb _ _ w)))

    -- the checks as the definitions have them
    pub found-record : (a b : Option Stop) {n : Option Stop} → n ≡ found_stop k f a b → n ≡ record_stop k (rest_at s at) a b
    unfolding found_stop
    found-record a b d =
        rw (d, read)
        (by_record (λ n. found_stop k (read_at s at) a b ≡ n) k (rest_at s at) (λ c. rw (no_command k (read_at s at) c)) (λ c w. rw (cut_head c w))
        (λ c w z. rw (whole_head c w, z)) (λ c w z. rw (whole_head c w, z)))

    pub found-later : (room : ℕ) {n : Option Stop} → n ≡ later_found room k f → n ≡ later_stop room k (rest_at s at)
    unfolding runner.later_stop
    found-later room d = found-record (Some OutOfPlace) (room_stop room) d

    -- a record that nothing stops is whole
    module _ (a b : Option Stop) {n : Option Stop} (d : n ≡ found_stop k f a b) (goes : goes_on n ≡ true) where
      found-whole : read_at s at ≡ whole_record k (at + 1) (length_of k) (at + 1 + length_of k)
      found-whole =
          let g : goes_on (record_stop k (rest_at s at) a b) ≡ true = rw (← found-record a b d) goes in
          by_record (λ n. goes_on n ≡ true → read_at s at ≡ whole_record k (at + 1) (length_of k) (at + 1 + length_of k)) k (rest_at s at) (λ c h. clash h refl) (λ c w h. clash h refl)
          (λ c w z h. read_as c w) (λ c w z h. read_as c w) g

      pub found-next : {c : ℕ} → c ≡ behind s at → c ≡ at + 1 + length_of k
      unfolding behind
      found-next e = rw found-whole at e

      pub found-body : body_at s at ≡ take (length_of k) (rest_at s at)
      unfolding records.body_at
      found-body = rw found-whole

-- ---- a usual record, of a step

pub usual_ready : {s : List ℕ} {at out : ℕ} {e : List ℕ} → UsualAt s at out e → is_step (record_kind_at s at) ≡ true → RecordReady s at out e
usual_ready {s} {at} {out} {e} u step = record {
  stands = u.stands;
  inside = u.inside;
  goes = usual_goes s at u.inside (length e - out) step (u.whole step) (let r = u.roomy in omega arith);
}
