-- Words for the parts of send and fill, over the raw numbers of the lent slices.
use Rattle.std.specs.Prelude.{◌≡◌, ℕ, ◌+◌, ◌*◌, ◌<◌, true, List, [], ◌∷◌, length, get_or, replicate, eqb}
use Rattle.words.specs.Words.{pad_to, pick}
use Rattle.model.specs.Range.{lines_of}
use Rattle.model.specs.Lent.{sector_at}
use Rattle.words.specs.Regions.{put}
use Rattle.model.specs.Tables.{idle}
use Rattle.model.specs.Steps.{arrived}
use Rattle.model.specs.declared.Settings.{Settings}
use Rattle.model.specs.declared.Event.TheVariants.{Filled}
use Rattle.model.specs.declared.Queued.{Queued}
use Rattle.model.specs.declared.QueueKind.TheVariants.{Read}
use Rattle.model.specs.declared.Reply.{Reply}
use Rattle.layout.specs.declared.Layout.{Layout}
use Rattle.layout.specs.Places.{First}
use Rattle.tables.specs.Raw.{holds_at, dirty_at}
use Rattle.tables.specs.Changed.{Changed}

-- ---- send

-- if the head is a read, its address is one of the first n miss addresses
abbrev pub HeadAsked : Layout → ℕ → List ℕ → Queued → Type 0
HeadAsked at n longs head = head.kind ≡ Read → (k : ℕ) × (k < n) × (get_or longs (at.misses + k) 0 ≡ head.address)

-- entry e is the first with an address, and its sent mark is set
pub record Marked (at : Layout) (n : ℕ) (longs : List ℕ) (a : ℕ) (marks marks' : List ℕ) : Type 0 where
  pub entry : ℕ
  pub inside : entry < n
  pub first : First longs at.misses n a entry
  pub marks_are : marks' ≡ put marks (at.sent + entry) (1 ∷ [])

-- so it is for the head's address, if that is a read; for a write-back nothing is set
pub record HeadMarked (at : Layout) (n : ℕ) (longs : List ℕ) (head : Queued) (marks marks' : List ℕ) : Type 0 where
  pub reads : head.kind ≡ Read → Marked at n longs head.address marks marks'
  pub other : (head.kind ≡ Read → ⊥) → marks' ≡ marks

-- ---- fill

-- one of the n lines from base has it
abbrev pub Holding : List ℕ → List ℕ → ℕ → ℕ → ℕ → Type 0
Holding longs marks base n block = (k : ℕ) × (k < n) × (holds_at longs marks block (base + k) ≡ true)

-- sector k of line l has come: without a dirty byte the line stays as dirty as it was, with one it is dirty then
abbrev pub SectorFilled : Settings → Layout → ℕ → ℕ → List ℕ → List ℕ → List ℕ → List ℕ → Type 0
SectorFilled S at l k words marks words' marks' =
    Changed S at l k (arrived (sector_at S words marks (4 * l + k))) (pick (eqb (sector_at S words marks (4 * l + k)).mask 0) (dirty_at marks l) true) words marks words' marks'

-- sector k of a line that has the block has come
pub record LineFilled (S : Settings) (at : Layout) (block k : ℕ) (longs words marks words' marks' : List ℕ) : Type 0 where
  pub line : ℕ
  pub inside : line < lines_of S
  pub held : holds_at longs marks block line ≡ true
  pub filled : SectorFilled S at line k words marks words' marks'

-- an address filled, with the tickets released
abbrev pub releasing : ℕ → List ℕ → Reply
releasing a ts = record {
  first = Filled a;
  queued = replicate 2 idle;
  queues = 0;
  count = length ts;
  tickets = pad_to 8 ts;
}
