-- L9: the trees that an accepted access leaves: as many, and each with bits in use alone.
use Rattle.words.proofs.General.{ℕ, ◌/◌, ◌<◌, mod-lt, ◌≡◌, refl, true, List, length, get_or, length-set, all, by_flag, all_in, in_get_or, all_set}
use Rattle.model.proofs.Terms.{in_range, is_tree, set_index, power_to16, tree_fine, turned_for}
use Rattle.model.specs.declared.Settings.{Settings}
use Rattle.model.proofs.Fits.{ranged}
use Rattle.model.proofs.Trees.{touched_keeps}

pub set_below : (S : Settings) → in_range S ≡ true → (a : ℕ) → set_index S a < S.sets
set_below S range a = mod-lt (a / 128) (ranged S range).sets

module _ (S : Settings) (a w : ℕ) (ts : List ℕ) where
  pub turned-length : length (turned_for S a w ts) ≡ length ts
  turned-length = by_flag (λ (us : List ℕ). length us ≡ length ts) (is_tree S) _ ts (λ e. length-set ts (set_index S a) _) (λ e. refl)

  module _ (power : is_tree S ≡ true → power_to16 S.ways ≡ true) (inside : set_index S a < length ts)
      (fine : all (tree_fine (is_tree S) S.ways) ts ≡ true) where
    pub turned-fine : all (tree_fine (is_tree S) S.ways) (turned_for S a w ts) ≡ true
    turned-fine =
        by_flag (λ (us : List ℕ). all (tree_fine (is_tree S) S.ways) us ≡ true) (is_tree S) _ ts
        (λ e.
        let was : tree_fine true S.ways (get_or ts (set_index S a) 0) ≡ true = rw e at (all_in (tree_fine (is_tree S) S.ways) ts fine (in_get_or ts (set_index S a) 0 inside)) in
        all_set (tree_fine (is_tree S) S.ways) ts (set_index S a) _ fine (rw e (touched_keeps _ w S.ways (power e) was)))
        (λ e. fine)
