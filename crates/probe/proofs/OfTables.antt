-- For a caller whose slices hold the tables t: the lines and their dirty count are those that `decide` speaks of, and its value is
-- what the access meets in t.
use Rattle.std.specs.Prelude.{Result}
use Rattle.words.proofs.General.{ℕ, ◌<◌, ◌≡◌, sym, ap, ◌∙◌, List, get_or, pick, get_or_table}
use Rattle.model.proofs.Terms.{is_tree, address_of, set_index, Line, Tables, Lent, tables_of, dirty_count_at, tree_at, Rule, by_key, by_tree, age, ways_of, probe, rule_of, met_in}
use Rattle.model.specs.declared.Settings.{Settings}
use Rattle.model.specs.declared.Access.{Access}
use Rattle.model.specs.declared.Refusal.{Refusal}
use Rattle.probe.specs.declared.Decision.{Decision}
use Rattle.probe.specs.Decided.{Decided, place_is, lines_held, rule_held}

module _ (S : Settings) (L : Lent) {t : Tables} (e : tables_of S L ≡ t) where
  pub lines_held_lem : t.lines ≡ lines_held S L.longs L.words L.marks
  unfolding tables_of
  lines_held_lem = sym (ap (λ (t : Tables). t.lines) e)

  pub dirty_held : t.dirty_count ≡ dirty_count_at S L.words
  unfolding tables_of
  dirty_held = sym (ap (λ (t : Tables). t.dirty_count) e)

  -- the rule of a set by the tree in the slices is that of the tables
  rule_held_lem : (a : ℕ) → set_index S a < S.sets → rule_held S L.words a ≡ rule_of S t a
  unfolding tables_of rule_of
  rule_held_lem a h =
      ap (λ (k : ℕ). pick (is_tree S) (by_tree k) (by_key (age S)))
      (sym (ap (λ (t : Tables). get_or t.trees (set_index S a) 0) (sym e) ∙ get_or_table S.sets (tree_at S L.words) (set_index S a) 0 h))

  pub decided_probe : {x : Access} {r : Result Decision Refusal} → set_index S (address_of x) < S.sets → Decided S L.longs L.words L.marks x r
      → place_is (ways_of S t.lines (address_of x)) (address_of x) r ≡ met_in S x t
  unfolding rule_of
  decided_probe {x} {r} inside d =
      let ls : List Line = ways_of S t.lines (address_of x) in
      let place : place_is ls (address_of x) r ≡ probe (rule_held S L.words (address_of x)) S t.dirty_count ls x = rw (lines_held_lem, dirty_held) d.place in
      place ∙ ap (λ (R : Rule). probe R S t.dirty_count ls x) (rule_held_lem (address_of x) inside)
