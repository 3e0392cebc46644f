-- Pieces of text one after another.
use Rattle.words.proofs.General.{ℕ, ◌+◌, ◌<◌, add-one, map, take, take-suc, map-append, get_or, ◌≡◌, refl, ap, ◌∙◌, ⊎_elim, List, [], ◌∷◌, ◌++◌, length, room, flag}
use Rattle.text.specs.Digits.{Put}
use Rattle.wording.specs.Shown.{shown}
use Rattle.wording.specs.declared.rows.Piece.{Piece}
use Rattle.wording.specs.Pieces.{Page, page, with_piece, with_pieces, Puts}

pub puts_none : {l : List ℕ} {at : ℕ} → Puts l at [] at l
unfolding with_pieces
puts_none = record { next = refl; left = refl }

pub put-page : {l : List ℕ} {at : ℕ} {s : List ℕ} {r : ℕ} {l₁ : List ℕ} → Put l at s r l₁ → page l₁ r ≡ with_piece s (page l at)
unfolding with_piece
put-page {l} {at} {s} p = rw (p.left, p.next) (⊎_elim (λ q. rw q) (λ q. rw q) (flag (room l at (length s))))

pub puts_page : {l : List ℕ} {at : ℕ} {ss : List (List ℕ)} {r : ℕ} {l₁ : List ℕ} → Puts l at ss r l₁ → page l₁ r ≡ with_pieces ss (page l at)
puts_page p = rw (p.left, p.next)

pub page_puts : {l : List ℕ} {at : ℕ} {ss : List (List ℕ)} {r : ℕ} {l₁ : List ℕ} → page l₁ r ≡ with_pieces ss (page l at) → Puts l at ss r l₁
page_puts e = record { next = ap (λ (p : Page). p.at) e; left = ap (λ (p : Page). p.slice) e }

pieces_append : (xs ys : List (List ℕ)) (p : Page) → with_pieces (xs ++ ys) p ≡ with_pieces ys (with_pieces xs p)
unfolding with_pieces
pieces_append [] ys p = refl
pieces_append (x ∷ xs) ys p = pieces_append xs ys (with_piece x p)

module _ {l : List ℕ} {at r : ℕ} {l₁ : List ℕ} {ys : List (List ℕ)} {q : ℕ} {l₂ : List ℕ} where
  -- one piece, then others
  pub put_then : {s : List ℕ} → Put l at s r l₁ → Puts l₁ r ys q l₂ → Puts l at (s ∷ ys) q l₂
  unfolding with_pieces
  put_then p k = page_puts (puts_page k ∙ ap (with_pieces ys) (put-page p))

  -- some pieces, then others
  pub puts_then : {xs : List (List ℕ)} → Puts l at xs r l₁ → Puts l₁ r ys q l₂ → Puts l at (xs ++ ys) q l₂
  puts_then {xs} p k = page_puts (puts_page k ∙ ap (with_pieces ys) (puts_page p) ∙ rw (pieces_append xs ys (page l at)))

pub put_one : {l : List ℕ} {at : ℕ} {s : List ℕ} {r : ℕ} {l₁ : List ℕ} → Put l at s r l₁ → Puts l at (s ∷ []) r l₁
put_one p = put_then p puts_none

pub puts_as : {l : List ℕ} {at : ℕ} {xs ys : List (List ℕ)} {r : ℕ} {l₁ : List ℕ} → Puts l at xs r l₁ → xs ≡ ys → Puts l at ys r l₁
puts_as p e = rw (← e) p

pub puts_from : {l l' : List ℕ} {at : ℕ} {ss : List (List ℕ)} {r : ℕ} {l₁ : List ℕ} → l ≡ l' → Puts l at ss r l₁ → Puts l' at ss r l₁
puts_from e p = rw (← e) p

-- the pieces before a place, then the one there
pub puts_more : (xs : List Piece) (i : ℕ) (d : Piece) {l : List ℕ} {at r : ℕ} {l₁ : List ℕ} {q : ℕ} {l₂ : List ℕ} → i < length xs → Puts l at (map shown (take i xs)) r l₁ → Put l₁ r (shown (get_or xs i d)) q l₂ → Puts l at (map shown (take (i + 1) xs)) q l₂
puts_more xs i d h p k = puts_as (puts_then p (put_one k)) (rw (add-one i, take-suc xs i d h, map-append))
