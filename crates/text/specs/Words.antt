-- Text as bytes. Words of a line: what spaces and words are, where they end, which word stands at a place.
use Rattle.std.specs.Prelude.{ℕ, suc, ◌+◌, ◌-◌, Bool, true, false, not, ◌&&◌, ◌||◌, List, [], ◌∷◌, length, take, drop, eqb, leb}
use Prim.Native.Char.{code}
use Prim.Native.String.{String, [] as end, ◌∷◌ as ◌then◌}
use Rattle.words.specs.Words.{pick}

-- the bytes of a text
abbrev pub codes : String → List ℕ
codes end = []
codes (c then s) = code c ∷ codes s

-- how many characters that pass s begins with
unfoldable pub passing_count : (ℕ → Bool) → List ℕ → ℕ
passing_count p [] = 0
passing_count p (c ∷ s) = pick (p c) (suc (passing_count p s)) 0

-- the first index of s, from at on, whose character does not pass
abbrev pub past : (ℕ → Bool) → List ℕ → ℕ → ℕ
past p s at = at + passing_count p (drop at s)

-- a space, a tab, the carriage return of a line end
abbrev pub is_space : ℕ → Bool
is_space c = eqb c (code " ") || (eqb c (code "\t") || eqb c (code "\r"))

-- what a word is made of: neither a space nor `#`, with which a comment begins
abbrev pub in_word : ℕ → Bool
in_word c = not (is_space c || eqb c (code "#"))

abbrev pub in_line : ℕ → Bool
in_line c = not (eqb c (code "\n"))

abbrev pub skip_spaces : List ℕ → ℕ → ℕ
skip_spaces s at = past is_space s at

abbrev pub word_end : List ℕ → ℕ → ℕ
word_end s at = past in_word s at

-- the word at an index; none where a space, a comment or the end stands there
abbrev pub word_at : List ℕ → ℕ → List ℕ
word_at s at = take (passing_count in_word (drop at s)) (drop at s)

-- the end of the line that begins at an index: that of its line feed, or of the whole text
abbrev pub line_end : List ℕ → ℕ → ℕ
line_end s at = past in_line s at

-- s from one index to another; nothing where these are no part of it
unfoldable pub part_of : List ℕ → ℕ → ℕ → List ℕ
part_of s from to = pick (leb from to && leb to (length s)) (take (to - from) (drop from s)) []

abbrev pub same_text : List ℕ → List ℕ → Bool
same_text [] [] = true
same_text [] (d ∷ t) = false
same_text (c ∷ s) [] = false
same_text (c ∷ s) (d ∷ t) = eqb c d && same_text s t
