-- The place of the set's tree, read and stored.
use Rattle.words.proofs.General.{ℕ, ◌/◌, ◌%◌, ◌≡◌, ap, ◌∙◌, eq-eqb}
use Rattle.model.proofs.Terms.{address_of, set_index}
use Rattle.layout.proofs.Stores.{one-put}
use Rattle.access.proofs.writes.turn_tree.Goals as goal

pub returns-then-g-eq-TREE : goal.returns-then-g-eq-TREE
returns-then-g-eq-TREE c =
    let s = c.args.g.settings in
    let here : c.set_index-set.result ≡ set_index s (address_of c.args.o.access) = c.set_index-set.ensures ∙ ap (λ (n : ℕ). n / 128 % s.sets) c.address_of.ensures in
    rw (eq-eqb _ 2 c.if-g-eq-TREE.true, c.touched.ensures, here) (one-put _ _ _ c.requires.inside)
