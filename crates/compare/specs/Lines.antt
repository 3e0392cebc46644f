-- Which turns put lines: the end of a pair that differs, and no other.
use Rattle.std.specs.Prelude.{◌≡◌, ◌<◌, Bool, true, false, ⊤, Result, Ok, Err}
use Rattle.comparing.specs.declared.Step.{Step}
use Rattle.comparing.specs.declared.Step.TheVariants as step
use Rattle.compare.specs.declared.page.Stopped.{Stopped}
use Rattle.compare.specs.declared.listing.Listing.{Listing}
use Rattle.compare.specs.Turns.{left_in_pass}

-- nothing is put
abbrev pub NothingPut : Listing → Listing → Type 0
NothingPut k r = r.lines ≡ k.lines

-- from k to r by a step, after which there is another one or not: the pair that ends is put where it differs, and the second reading is
-- then past it, unless a log could not be read on or a write failed
unfoldable pub ListsPair : Listing → Result Bool Stopped → Listing → Step → Type 0
ListsPair k (Ok more) r (step.Pair true v) = (more ≡ true) × (k.pairs.walk.number < r.lines.walk.number)
ListsPair k (Ok more) r (step.Pair false v) = NothingPut k r × (more ≡ true)
ListsPair k (Ok more) r (step.Row m n same v) = NothingPut k r × (more ≡ true)
ListsPair k (Ok more) r (step.Wants l) = NothingPut k r × (more ≡ true)
ListsPair k (Ok more) r step.Over = NothingPut k r × (more ≡ false)
ListsPair k (Err e) r (step.Pair true v) = ⊤
ListsPair k (Err e) r (step.Pair false v) = ⊥
ListsPair k (Err e) r (step.Row m n same v) = ⊥
ListsPair k (Err e) r (step.Wants l) = NothingPut k r
ListsPair k (Err e) r step.Over = NothingPut k r

-- where there is another turn less is left
abbrev pub FewerLeft : Listing → Result Bool Stopped → Listing → Type 0
FewerLeft k (Ok true) r = left_in_pass r.pairs < left_in_pass k.pairs
FewerLeft k (Ok false) r = ⊤
FewerLeft k (Err e) r = ⊤
