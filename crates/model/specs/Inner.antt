-- What the inner functions ask and promise, behind the checks of the public calls. Nothing here is document 01's.
use Rattle.std.specs.Prelude.{◌≡◌, ℕ, ◌*◌, ◌≤◌, true, List, length}
use Rattle.model.specs.Range.{in_range, power_to256, lines_of, is_tree}
use Rattle.model.specs.Tree.{power_to16}
use Rattle.model.specs.Layout.{longs_length, words_length, marks_length, words_from, taken_region}
use Rattle.model.specs.Tables.{Tables, Outcome}
use Rattle.model.specs.Lent.{Lent, encode}
use Rattle.model.specs.Sound.{sound}
use Rattle.model.specs.Calls.{encoded, Leaves}
use Rattle.model.specs.declared.Settings.{Settings}
use Rattle.model.specs.declared.Reply.{Reply}

-- a fact that only a proof that asks for it reads: all of them at once are more than `omega` holds
pub data Aside (P : Type 0) : Type 0 where
  aside : P → Aside P

abbrev pub told : {P : Type 0} → Aside P → P
told (aside p) = p

-- settings in range and slices of the right lengths, as numbers
pub record Sized (S : Settings) (longs words marks : List ℕ) : Type 0 where
  pub power : power_to256 S.sets ≡ true
  pub sets : 1 ≤ S.sets
  pub ways : 1 ≤ S.ways
  pub few_ways : S.ways ≤ 16
  pub lines : lines_of S ≤ 1024
  pub dirty : S.dirty ≤ 100
  pub entry : 1 ≤ S.misses
  pub misses : S.misses ≤ 64
  pub reader : 1 ≤ S.readers
  pub readers : S.readers ≤ 8
  pub tickets : S.readers * S.misses ≤ 512
  pub place : 2 ≤ S.queue
  pub queue : S.queue ≤ 64
  pub tree : is_tree S ≡ true → power_to16 S.ways ≡ true
  pub longs_long : length longs ≡ longs_length S
  pub words-room : words_from S taken_region ≤ length words
  pub words_long : Aside (length words ≡ words_length S)
  pub marks_long : length marks ≡ marks_length S

-- the slices are the encoding of the tables t, which are sound
pub record Encodes (S : Settings) (L : Lent) (t : Tables) : Type 0 where
  pub range : in_range S ≡ true
  pub soundly : sound S t ≡ true
  pub encoded : L ≡ encode S t

-- the slices are the encoding of some sound tables
pub record SoundSlices (S : Settings) (L : Lent) : Type 0 where
  pub tables : Tables
  pub are : Encodes S L tables

-- an inner step on L told r and left the slices M, as the step on the tables says
pub record Does (S : Settings) (step : Tables → Outcome Tables) (L : Lent) (r : Reply) (M : Lent) : Type 0 where
  pub on : (t : Tables) → Encodes S L t → Leaves (encoded S (step t)) L r M
