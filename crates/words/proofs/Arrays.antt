-- What a function knows of an array of 32-bit words in a value that it takes: how many they are, and that each is one.
use mathlib.Core.Path.{◌≡◌, sym, ap, ◌∙◌}
use mathlib.Core.List.{List, [], ◌∷◌, map, map-id}
use Prim.Native.Nat.{ℕ, zero, suc, ◌^◌, ◌<◌}
use lib.Dec.{lit<}
use lib.ListN.{length, get_or}
use mir.Syntax.{w32}
use mir.Val.{Val}
use denote.Array.{Array, each}
use denote.Laws.{Is}
use denote.Plain.{UInt}
use denote.Shadow.{shadow}
use borrow.Kind.Array.{e_int, good_length}

each_below : (ws : List ℕ) (us : List Val) → shadow (each ℕ (UInt w32).own_val ws us) → (i : ℕ) → get_or ws i 0 < 2 ^ 32
each_below [] us s i = lit< tt
each_below (w ∷ ws) [] s i = absurd s
each_below (w ∷ ws) (u ∷ us) s zero = s.0.1
each_below (w ∷ ws) (u ∷ us) s (suc i) = each_below ws us s.1 i

-- a field that is an array comes as its words, mapped one by one
module _ (n : ℕ) (ws : List ℕ) (vs : List Val) (p : Is (Array (UInt w32) n) (map (λ (w : ℕ). w) ws) vs) where
  pub words-length : length ws ≡ n
  words-length = ap length (sym (map-id ws)) ∙ good_length (e_int w32) n (map (λ (w : ℕ). w) ws) vs p

  pub words_below : (i : ℕ) → get_or ws i 0 < 2 ^ 32
  words_below i = rw map-id at (each_below (map (λ (w : ℕ). w) ws) p.0 p.1.1 i)
