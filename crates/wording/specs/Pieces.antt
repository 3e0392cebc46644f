-- Text put into a slice piece by piece: each piece where there is room for all of it, or not at all.
use Rattle.std.specs.Prelude.{ℕ, ◌+◌, ◌≡◌, List, [], ◌∷◌, length}
use Rattle.std.proofs.lemmas.List.Edits.{sets}
use Rattle.words.specs.Words.{pick}
use Rattle.words.specs.Regions.{room}

-- a slice, and the place in it where text goes on
pub record Page : Type 0 where
  pub slice : List ℕ
  pub at : ℕ

abbrev pub page : List ℕ → ℕ → Page
page l at = record { slice = l; at = at }

-- one piece, as `Put` has it
unfoldable pub with_piece : List ℕ → Page → Page
with_piece s p =
    pick (room p.slice p.at (length s))
    (page (sets p.slice p.at s) (p.at + length s))
    p

unfoldable pub with_pieces : List (List ℕ) → Page → Page
with_pieces [] p = p
with_pieces (s ∷ ss) p = with_pieces ss (with_piece s p)

-- the pieces put into l from index at on leave l₁, and r is the index behind them
pub record Puts (l : List ℕ) (at : ℕ) (ss : List (List ℕ)) (r : ℕ) (l₁ : List ℕ) : Type 0 where
  pub next : r ≡ (with_pieces ss (page l at)).at
  pub left : l₁ ≡ (with_pieces ss (page l at)).slice
