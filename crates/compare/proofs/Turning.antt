-- A turn goes on: what is left falls. Which turns put lines.
use Rattle.words.proofs.General.{ℕ, ◌≤◌, ◌<◌, arith, ◌≡◌, refl, sym, ◌∙◌, ⊎_elim, Bool, true, false, List, length, pick, clash, pick_both}
use Rattle.std.specs.Prelude.{⊤, Result, Ok, Err, IsErr}
use Rattle.comparing.specs.declared.Log.{Log}
use Rattle.comparing.specs.declared.Log.TheVariants as log
use Rattle.comparing.specs.declared.Walk.{Walk}
use Rattle.comparing.specs.declared.Step.{Step}
use Rattle.comparing.specs.declared.Step.TheVariants as step
use Rattle.comparing.specs.Steps.{untouched}
use Rattle.comparing.proofs.Progress.{Moves, moves}
use Rattle.compare.specs.declared.page.Stopped.{Stopped}
use Rattle.compare.specs.declared.reading.Window.{Window}
use Rattle.compare.specs.declared.turns.Pass.{Pass}
use Rattle.compare.specs.declared.listing.Listing.{Listing}
use Rattle.compare.specs.Lines.{NothingPut, ListsPair}
use Rattle.compare.specs.Windows.{WindowSound, Fed, left_of}
use Rattle.compare.specs.Turns.{waits, next_step, Passed, ReadOn, Comes, left_in_pass, LessLeft}
use Rattle.compare.proofs.Feeding.{moved-left}

-- reading on leaves less, where it did not fail
fed_less : {l l₁ : List ℕ} {w v : Window} {m n : ℕ} → WindowSound m w → WindowSound n v → Fed l w v (Ok tt) l₁ → w.ended ≡ false → left_of v < left_of w
fed_less s t f e = ⊎_elim (λ x. rw (e, x.1) (omega arith)) (λ x. rw (e, x.1) (omega arith)) f.more

-- a turn by a step
pub record TurnTaken (p : Pass) (r : Result ⊤ Stopped) (q : Pass) (st : Step) : Type 0 where
  pub comes : Comes p r q st
  pub less : LessLeft p r q st

module _ (p : Pass) where
  -- what the step says of the bytes that wait
  step_moves : {st : Step} → st ≡ next_step p → Moves p.walk (waits p.first) p.first.window.ended (waits p.second) p.second.window.ended st
  step_moves e = rw e (moves p.walk (waits p.first) p.first.window.ended (waits p.second) p.second.window.ended)

  pub row-fits : {st : Step} {m n : ℕ} {same : Bool} {v : Walk} → st ≡ step.Row m n same v → st ≡ next_step p → (m ≤ length (waits p.first)) × (n ≤ length (waits p.second))
  row-fits i e = let k = step_moves (sym i ∙ e) in (k.0, k.1)

  module _ (q : Pass) {st : Step} (e : st ≡ next_step p) where
    pub first_read : (r : Result ⊤ Stopped) → st ≡ step.Wants log.First → ReadOn p.first r q.first → q.second ≡ p.second → q.walk ≡ p.walk → TurnTaken p r q st
    unfolding Comes left_in_pass
    first_read (Err x) i f g h = rw i (record { comes = (f, g, h); less = tt })
    first_read (Ok x) i f g h = let k = fed_less p.first.sound q.first.sound f (step_moves (sym i ∙ e)) in rw i (record { comes = (f, g, h); less = rw (g, h) (omega arith) })

    pub second_read : (r : Result ⊤ Stopped) → st ≡ step.Wants log.Second → ReadOn p.second r q.second → q.first ≡ p.first → q.walk ≡ p.walk → TurnTaken p r q st
    unfolding Comes left_in_pass
    second_read (Err x) i f g h = rw i (record { comes = (f, g, h); less = tt })
    second_read (Ok x) i f g h = let k = fed_less p.second.sound q.second.sound f (step_moves (sym i ∙ e)) in rw i (record { comes = (f, g, h); less = rw (g, h) (omega arith) })

    pub row-taken : {m n : ℕ} {same : Bool} {v : Walk} → st ≡ step.Row m n same v → Passed p.first m q.first → Passed p.second n q.second → q.walk ≡ v → TurnTaken p (Ok tt) q st
    unfolding Comes left_in_pass
    row-taken {m} {n} {same} {v} z f g h =
        let k = step_moves (sym z ∙ e) in
        let i = moved-left p.first.bytes p.first.window k.0 in
        let j = moved-left p.second.bytes p.second.window k.1 in
        let u : pick (untouched v) 0 1 ≤ 1 = pick_both (λ x. x ≤ 1) (untouched v) (omega arith) (omega arith) in
        rw z (record { comes = (refl, f, g, h); less = rw (f.1, g.1, h) (omega arith) })

    pub pair-taken : {d : Bool} {v : Walk} → st ≡ step.Pair d v → q.first ≡ p.first → q.second ≡ p.second → q.walk ≡ v → TurnTaken p (Ok tt) q st
    unfolding Comes left_in_pass
    pair-taken z f g h = let k = step_moves (sym z ∙ e) in rw z (record { comes = (refl, f, g, h); less = rw (f, g, h, k.0, k.1) (omega arith) })

    pub over-taken : st ≡ step.Over → q ≡ p → TurnTaken p (Ok tt) q st
    unfolding Comes
    over-taken z f = rw z (record { comes = (refl, f); less = tt })

-- ---- which turns put lines

module _ (k r : Listing) where
  -- a turn fails where the step wants more, and nothing is put
  pub fails_quiet : (st : Step) (y : Result ⊤ Stopped) (p q : Pass) → Comes p y q st → IsErr y → (x : Result Bool Stopped) → IsErr x → NothingPut k r → ListsPair k x r st
  unfolding ListsPair Comes
  fails_quiet st y p q d j (Ok z) i h = clash i refl
  fails_quiet (step.Wants l) y p q d j (Err e) i h = h
  fails_quiet (step.Row m n same v) y p q d j (Err e) i h = clash (rw d.0 at j) refl
  fails_quiet (step.Pair true v) y p q d j (Err e) i h = tt
  fails_quiet (step.Pair false v) y p q d j (Err e) i h = clash (rw d.0 at j) refl
  fails_quiet step.Over y p q d j (Err e) i h = h

  over_stops : (x : Result Bool Stopped) → IsErr x → NothingPut k r → ListsPair k x r step.Over
  unfolding ListsPair
  over_stops (Ok z) i h = clash i refl
  over_stops (Err e) i h = h

  pair_stops : (v : Walk) (x : Result Bool Stopped) → IsErr x → ListsPair k x r (step.Pair true v)
  unfolding ListsPair
  pair_stops v (Ok y) i = clash i refl
  pair_stops v (Err e) i = tt

  module _ {st s : Step} (g : s ≡ st) where
    pub pair_fails : {d : Bool} {v : Walk} (x : Result Bool Stopped) → s ≡ step.Pair d v → d ≡ true → IsErr x → ListsPair k x r st
    pair_fails {d} {v} x i t h = rw (sym g ∙ i, t) (pair_stops v x h)

    pub over_fails : (x : Result Bool Stopped) → s ≡ step.Over → IsErr x → NothingPut k r → ListsPair k x r st
    over_fails x i h q = rw (sym g ∙ i) (over_stops x h q)

    pub pair_put : {d : Bool} {v : Walk} → s ≡ step.Pair d v → d ≡ true → k.pairs.walk.number < r.lines.walk.number → ListsPair k (Ok true) r st
    unfolding ListsPair
    pair_put i t h = rw (sym g ∙ i, t) (refl, h)

    pub pair_quiet : {d : Bool} {v : Walk} → s ≡ step.Pair d v → d ≡ false → NothingPut k r → ListsPair k (Ok true) r st
    unfolding ListsPair
    pair_quiet i t h = rw (sym g ∙ i, t) (h, refl)

    pub row_quiet : {m n : ℕ} {same : Bool} {v : Walk} → s ≡ step.Row m n same v → NothingPut k r → ListsPair k (Ok true) r st
    unfolding ListsPair
    row_quiet i h = rw (sym g ∙ i) (h, refl)

    pub read_quiet : {l : Log} → s ≡ step.Wants l → NothingPut k r → ListsPair k (Ok true) r st
    unfolding ListsPair
    read_quiet i h = rw (sym g ∙ i) (h, refl)

    pub over_quiet : s ≡ step.Over → NothingPut k r → ListsPair k (Ok false) r st
    unfolding ListsPair
    over_quiet i h = rw (sym g ∙ i) (h, refl)
