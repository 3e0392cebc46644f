-- Tick: what it writes is what the step on the tables says.
use Rattle.words.proofs.General.{ℕ, ◌≡◌, sym, ap, ◌∙◌, Bool, true, false, ◌||◌, List, [], ◌∷◌, get_or, set, ltb}
use Rattle.model.proofs.Terms.{Tables, done, with_now, lent, last_cycle, tick, encoded, Leaves, Encodes}
use Rattle.model.specs.declared.Settings.{Settings}
use Rattle.model.specs.declared.Refusal.TheVariants.{BadCycle}
use Rattle.model.specs.declared.Event.TheVariants as event
use Rattle.model.specs.declared.Reply.{Reply}
use Rattle.tables.specs.Telling.{telling}
use Rattle.layout.proofs.ByBlocks.{ByBlocks, is_stands, stands_encode, now_stands}
use Rattle.tables.proofs.Tellings.{telling-tells, telling_tidy, refusal_leaves, done_leaves}

module _ (S : Settings) (c : ℕ) (t : Tables) {longs words marks : List ℕ} (i : Encodes S (lent longs words marks) t) where
  h : ByBlocks S longs words marks t
  h = is_stands i

  -- the test in the numbers and in the tables
  bad : {b : Bool} → (ltb c (get_or words 0 0) || ltb last_cycle c) ≡ b → (ltb c t.now || ltb last_cycle c) ≡ b
  bad q = ap (λ (n : ℕ). ltb c n || ltb last_cycle c) (sym (now_stands h)) ∙ q

  pub tick-refused : (ltb c (get_or words 0 0) || ltb last_cycle c) ≡ true → {r : Reply} → r ≡ telling (event.Refused BadCycle)
      → Leaves (encoded S (tick c t)) (lent longs words marks) r (lent longs words marks)
  unfolding tick
  tick-refused q e = let b = bad q in rw (e, b) (refusal_leaves BadCycle (lent longs words marks))

  pub tick_leaves : (ltb c (get_or words 0 0) || ltb last_cycle c) ≡ false → {r : Reply} → r ≡ telling event.Ticked
      → Leaves (encoded S (tick c t)) (lent longs words marks) r (lent longs (set words 0 c) marks)
  unfolding tick
  tick_leaves q e =
      let b = bad q in
      let outcome : tick c t ≡ done (event.Ticked ∷ []) (with_now c t) = rw b in
      let left : ByBlocks S longs (set words 0 c) marks (with_now c t) =
      record { as_longs = h.as_longs; as_words = ap (λ (l : List ℕ). set l 0 c) h.as_words; as_marks = h.as_marks } in
      done_leaves S outcome (rw e (telling-tells event.Ticked)) (rw e (telling_tidy event.Ticked)) (stands_encode left)
