-- A step moves on: a row passes a byte or more, of those that the logs show; a pair ends only where some of it is passed; a log has to
-- show more only where more comes.
use Rattle.std.specs.Prelude.{Option, None, Some}
use Rattle.words.proofs.General.{ℕ, zero, suc, ◌+◌, ◌≤◌, ◌<◌, arith, ◌≡◌, refl, sym, Bool, true, false, ◌&&◌, List, [], append-nil, length, eqb, clash, by_flag}
use Rattle.comparing.specs.declared.Walk.{Walk}
use Rattle.comparing.specs.declared.Log.TheVariants as log
use Rattle.comparing.specs.declared.Step.{Step}
use Rattle.comparing.specs.declared.Step.TheVariants as step
use Rattle.comparing.specs.Steps.{ahead, untouched, pair_over, record_row, step_shown, begun_side, stepped, Front}
use Rattle.comparing.proofs.Rests.{AheadShown, ahead_shown}

alone : (a : List ℕ) (whole : Bool) → Front a a whole
alone a whole = record { behind = []; joins = sym (append-nil a); all = λ e. refl }

module _ (w : Walk) (a : List ℕ) (whole : Bool) (b : List ℕ) (ends : Bool) where
  abbrev pub Moves : Step → Type 0
  Moves (step.Wants log.First) = whole ≡ false
  Moves (step.Wants log.Second) = ends ≡ false
  Moves (step.Row m n u v) = (m ≤ length a) × (n ≤ length b) × (0 < m + n)
  Moves (step.Pair d v) = (untouched w ≡ false) × (untouched v ≡ true)
  Moves step.Over = Unit {0}

  some : (m n : ℕ) → (eqb m 0 && eqb n 0) ≡ false → 0 < m + n
  some zero zero q = clash refl q
  some zero (suc n) q = omega arith
  some (suc m) n q = omega arith

  by_row : (m n : ℕ) → m ≤ length a → n ≤ length b → Moves (record_row w a b m n)
  unfolding record_row pair_over
  by_row m n k l =
      by_flag Moves (eqb m 0 && eqb n 0) _ _
      (λ e. by_flag Moves (untouched w) _ _ (λ q. tt) (λ q. (q, refl)))
      (λ e. (k, l, some m n e))

  pub moves : Moves (stepped w a whole b ends)
  unfolding stepped
  moves = go (ahead (begun_side w.first) a whole) (ahead_shown (begun_side w.first) (alone a whole)) (ahead (begun_side w.second) b ends) (ahead_shown (begun_side w.second) (alone b ends))
    where
      go : (x : Option ℕ) → AheadShown (begun_side w.first) (alone a whole) x → (y : Option ℕ) → AheadShown (begun_side w.second) (alone b ends) y → Moves (step_shown w a b x y)
      go None p y q = p.0
      go (Some m) p None q = q.0
      go (Some m) p (Some n) q = by_row m n p.1 q.1
