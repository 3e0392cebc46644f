-- What waits behind a part that ran, by its stop: where its run halts, or the last record alone; what waits for more bytes is short.
use Rattle.std.specs.Prelude.{Option, Some, None}
use Rattle.words.proofs.General.{ℕ, ◌≤◌, zero-add, arith, ◌≡◌, refl, sym, ap, ◌∙◌, false, List, [], ◌++◌, append-nil, append_assoc, length, take, drop, length-drop}
use Rattle.words.proofs.General.{take-append-drop, length-take-le, drop-append-le, drop-length, clash}
use Rattle.model.proofs.Terms.{Tables, event_room, RunResult, halt, run_from}
use Rattle.model.specs.declared.Settings.{Settings}
use Rattle.model.specs.declared.Stop.{Stop}
use Rattle.model.specs.declared.Stop.TheVariants as stop
use Rattle.running.proofs.Asked.{final}
use Rattle.streaming.specs.declared.work.Next.{Next}
use Rattle.streaming.specs.declared.work.Next.TheVariants as next
use Rattle.streaming.specs.declared.scope.Scope.{Scope}
use Rattle.streaming.specs.declared.scope.Scope.TheVariants as scope
use Rattle.streaming.specs.Works.{next_after_stop, Few}
use Rattle.streaming.specs.Scopes.{before_last, part_end}
use Rattle.streaming.specs.Halts.{of_end, MayFollow, Halts, OneRecord, Before}
use Rattle.streaming.proofs.Lasts.{last_most, last-alone}
use Rattle.streaming.proofs.Stops.{halts_there, halts_behind, eats_inside, nothing_left, cut_short, alone-short, last_whole}

-- what holds of each stop with what comes next
pub by_stop : (P : Option Stop → Next → Type 0) → P None next.Read → P (Some stop.CutShort) next.Read → P (Some stop.NoRoom) next.Run
    → ((n : Option Stop) → of_end n ≡ false → (n ≡ Some stop.NoRoom → ⊥) → P n next.Stopped) → (n : Option Stop) → P n (next_after_stop n)
by_stop P end cut full other None = end
by_stop P end cut full other (Some stop.CutShort) = cut
by_stop P end cut full other (Some stop.NoRoom) = full
by_stop P end cut full other (Some stop.SettingOutOfRange) = other (Some stop.SettingOutOfRange) refl (final {n = (Some stop.SettingOutOfRange)} refl).roomy
by_stop P end cut full other (Some stop.SliceLength) = other (Some stop.SliceLength) refl (λ e. let z : ◌≡◌ {A = ℕ} 0 1 = cc in omega arith)
by_stop P end cut full other (Some stop.NotSound) = other (Some stop.NotSound) refl (final {n = (Some stop.NotSound)} refl).roomy
by_stop P end cut full other (Some stop.OutOfPlace) = other (Some stop.OutOfPlace) refl (final {n = (Some stop.OutOfPlace)} refl).roomy
by_stop P end cut full other (Some stop.UnknownKind) = other (Some stop.UnknownKind) refl (final {n = (Some stop.UnknownKind)} refl).roomy

pub part_most : (k : Scope) (p : List ℕ) → part_end k p ≤ length p
part_most scope.All p = omega arith
part_most scope.BeforeLast p = last_most 0 p

module _ (S : Settings) (room : ℕ) (p : List ℕ) (t : Tables) (k : Scope) where
  abbrev pub run_part : List ℕ
  run_part = take (part_end k p) p

  abbrev behind_part : List ℕ
  behind_part = drop (part_end k p) p

  abbrev pub ran : RunResult Tables
  ran = run_from S 0 room run_part t

  pub part-behind : run_part ++ behind_part ≡ p
  part-behind = take-append-drop (part_end k p) p

  pub part_long : length run_part ≡ part_end k p
  part_long = length-take-le (part_end k p) p (part_most k p)

  pub part_eats : ran.consumed ≤ length run_part
  part_eats = let h = eats_inside S 0 room run_part t (omega arith) in omega arith

  pub part_rest : drop ran.consumed p ≡ drop ran.consumed run_part ++ behind_part
  part_rest = ap (drop ran.consumed) (sym part-behind) ∙ drop-append-le ran.consumed run_part behind_part part_eats

  part_halts : (other : ℕ) (n : Option Stop) → event_room ≤ other → ran.stop ≡ n → (n ≡ Some stop.NoRoom → ⊥)
      → run_from S 0 other (drop ran.consumed run_part) ran.tables ≡ halt n ran.tables
  part_halts other n w q g =
      (rw zero-add at (halts_there S 0 room other run_part t (omega arith) w (λ f. g (sym q ∙ f))))
      ∙ ap (λ (m : Option Stop). halt m ran.tables) q

  rest_halts : (n : Option Stop) → ran.stop ≡ n → (n ≡ Some stop.NoRoom → ⊥) → ((b : List ℕ) → MayFollow n b → MayFollow n (behind_part ++ b))
      → Halts S n (drop ran.consumed p) ran.tables
  rest_halts n q g m b other h w =
      rw (part_rest, append_assoc)
      (halts_behind S other (drop ran.consumed run_part) ran.tables n (part_halts other n w q g) (behind_part ++ b) (m b h))

module _ (S : Settings) (room : ℕ) (p : List ℕ) (t : Tables) where
  all_halts : (n : Option Stop) → (ran S room p t scope.All).stop ≡ n → (n ≡ Some stop.NoRoom → ⊥) → Halts S n (drop (ran S room p t scope.All).consumed p) (ran S room p t scope.All).tables
  all_halts n q g = rest_halts S room p t scope.All n q g (λ b h. rw (drop-length p) h)

  -- all of it has run
  last_rest : (ran S room p t scope.BeforeLast).stop ≡ None → OneRecord (drop (ran S room p t scope.BeforeLast).consumed p)
  last_rest q =
      let a = run_part S room p t scope.BeforeLast in
      let o = ran S room p t scope.BeforeLast in
      let h = part_halts S room p t scope.BeforeLast 64 None (omega arith) q (final {n = None} refl).roomy in
      let z = nothing_left S 64 (drop o.consumed a) o.tables h in
      let l = part_long S room p t scope.BeforeLast in
      let i = part_eats S room p t scope.BeforeLast in
      let d = length-drop o.consumed a in
      let e : o.consumed ≡ before_last 0 p = omega arith in
      rw e (last-alone 0 p (omega arith))

  pub before-part : (k : Scope) (n : Option Stop) → (ran S room p t k).stop ≡ n → Before S k (next_after_stop n) n (drop (ran S room p t k).consumed p) (ran S room p t k).tables
  before-part scope.All n q =
      by_stop (λ m x. (ran S room p t scope.All).stop ≡ m → Before S scope.All x m (drop (ran S room p t scope.All).consumed p) (ran S room p t scope.All).tables)
      (λ q. all_halts None q (final {n = None} refl).roomy) (λ q. all_halts (Some stop.CutShort) q (final {n = (Some stop.CutShort)} refl).roomy) (λ q. tt)
      (λ m e g q. all_halts m q g) n q
  before-part scope.BeforeLast None q = last_rest q
  before-part scope.BeforeLast (Some stop.CutShort) q = last_whole S 0 room p t (omega arith) q
  before-part scope.BeforeLast (Some stop.NoRoom) q = tt
  before-part scope.BeforeLast (Some stop.SettingOutOfRange) q = rest_halts S room p t scope.BeforeLast (Some stop.SettingOutOfRange) q (final {n = (Some stop.SettingOutOfRange)} refl).roomy (λ b h z. clash z refl)
  before-part scope.BeforeLast (Some stop.SliceLength) q = rest_halts S room p t scope.BeforeLast (Some stop.SliceLength) q (λ e. let z : ◌≡◌ {A = ℕ} 0 1 = cc in omega arith) (λ b h z. clash z refl)
  before-part scope.BeforeLast (Some stop.NotSound) q = rest_halts S room p t scope.BeforeLast (Some stop.NotSound) q (final {n = (Some stop.NotSound)} refl).roomy (λ b h z. clash z refl)
  before-part scope.BeforeLast (Some stop.OutOfPlace) q = rest_halts S room p t scope.BeforeLast (Some stop.OutOfPlace) q (final {n = (Some stop.OutOfPlace)} refl).roomy (λ b h z. clash z refl)
  before-part scope.BeforeLast (Some stop.UnknownKind) q = rest_halts S room p t scope.BeforeLast (Some stop.UnknownKind) q (final {n = (Some stop.UnknownKind)} refl).roomy (λ b h z. clash z refl)

-- ---- what waits is short

module _ (S : Settings) (q : List ℕ) (u : Tables) where
  at_end_lem : {n : Option Stop} → Halts S n q u → MayFollow n [] → run_from S 0 64 q u ≡ halt n u
  at_end_lem h e = rw append-nil at (h [] 64 e (omega arith))

  pub few_before : (k : Scope) (n : Option Stop) → Before S k (next_after_stop n) n q u → Few (next_after_stop n) (length q)
  few_before scope.All =
      by_stop (λ n m. Before S scope.All m n q u → Few m (length q)) (λ h. let z = nothing_left S 64 q u (at_end_lem h (λ z. refl)) in omega arith)
      (λ h. cut_short S 64 q u (at_end_lem h (λ z. refl))) (λ h. tt) (λ n early roomy h. tt)
  few_before scope.BeforeLast = by_stop (λ n m. Before S scope.BeforeLast m n q u → Few m (length q)) (alone-short q) (λ h. absurd h) (λ h. tt) (λ n early roomy h. tt)
