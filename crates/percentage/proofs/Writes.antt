-- A list of differences in a slice, one at a time. Assumes nothing.
use Rattle.words.proofs.General.{ℕ, suc, ◌+◌, ◌≤◌, ◌<◌, arith, ◌≡◌, refl, sym, ap, ◌∙◌, List, [], ◌∷◌, ◌++◌, append_assoc, append-nil, length, take, drop, set}
use Rattle.words.proofs.General.{length-append, length-set, take-append-drop, sets-eq, take_at, drop_at, drop-drop, length-take-le}
use Rattle.std.specs.Prelude.{Some, None}
use Rattle.percentage.specs.declared.Triple.{Triple}
use Rattle.percentage.specs.Differences.{differences, differences_from, Lists}
use Rattle.percentage.proofs.Lists.{rest_first}
use Rattle.percentage.proofs.Hundreds.{twenty}

-- the n differences at the front of `after`, with those that are left, are all the differences; the rest is as it was before
pub record Written (before after : List Triple) (n : ℕ) (left : List Triple) : Type 0 where
  pub long : length after ≡ length before
  pub room : n ≤ length after
  pub front : take n after ++ left ≡ differences
  pub back : drop n after ≡ drop n before

pub written-first : (xs : List Triple) → Written xs xs 0 (differences_from 0 1 0)
written-first xs = record { long = refl; room = omega arith; front = sym rest_first; back = refl }

module _ (before after : List Triple) (n : ℕ) (left : List Triple) (w : Written before after n left) where
  pub written_more : (t : Triple) (more : List Triple) → left ≡ t ∷ more → n < length after → Written before (set after n t) (n + 1) more
  written_more t more e h =
      let now-is : set after n t ≡ (take n after ++ (t ∷ [])) ++ drop (n + 1) after = sets-eq (t ∷ []) after n (omega arith) in
      let head : List Triple = take n after ++ (t ∷ []) in
      let head-long : length head ≡ n + 1 = length-append (take n after) (t ∷ []) ∙ ap (λ (k : ℕ). k + 1) (length-take-le n after w.room) in
      let same : length (set after n t) ≡ length after = simp length-set in
      record {
        long = same ∙ w.long;
        room = omega arith;
        front = rw (now-is, take_at head (drop (n + 1) after) (n + 1) head-long, append_assoc) (rw e at w.front);
        back = rw (now-is, drop_at head (drop (n + 1) after) (n + 1) head-long, ← (drop-drop 1 n after), w.back) (drop-drop 1 n before);
      }

  pub written_all : left ≡ [] → Lists before after (Some n)
  written_all e =
      let whole : take n after ≡ differences = rw (e, append-nil) at w.front in (
        sym (take-append-drop n after) ∙ rw (whole, w.back),
        sym (length-take-le n after w.room) ∙ ap length whole,
        omega (arith, w.long, w.room),
      )

  -- while a difference is left there is room for it
  pub written-room : (t : Triple) (more : List Triple) → left ≡ t ∷ more → 20 ≤ length before → n < length after
  written-room t more e h =
      let more-is : length left ≡ suc (length more) = rw e in
      omega (arith, w.long, twenty, ap length w.front, length-append (take n after) left, length-take-le n after w.room)

pub written_none : (xs : List Triple) → length xs < 20 → Lists xs xs None
written_none xs h = (refl, omega (arith, twenty))
