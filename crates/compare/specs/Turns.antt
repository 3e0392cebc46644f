-- One turn over two logs: the step of `comparing` on the bytes that wait, or more bytes.
use Rattle.std.specs.Prelude.{◌≡◌, ℕ, ◌+◌, ◌<◌, List, ⊤, Result, Ok, Err}
use Rattle.words.specs.Words.{pick}
use Rattle.comparing.specs.declared.Log.TheVariants as log
use Rattle.comparing.specs.declared.Step.{Step}
use Rattle.comparing.specs.declared.Step.TheVariants as step
use Rattle.comparing.specs.Steps.{untouched, stepped}
use Rattle.compare.specs.declared.page.Stopped.{Stopped}
use Rattle.compare.specs.declared.reading.Feed.{Feed}
use Rattle.compare.specs.declared.turns.Pass.{Pass}
use Rattle.compare.specs.Windows.{waiting_in, moved_by, Fed, left_of}

-- the bytes that wait of a log
abbrev pub waits : Feed → List ℕ
waits f = waiting_in f.bytes f.window

-- the step on the bytes that wait in the buffers
abbrev pub next_step : Pass → Step
next_step p = stepped p.walk (waits p.first) p.first.window.ended (waits p.second) p.second.window.ended

-- n bytes of a log are passed
abbrev pub Passed : Feed → ℕ → Feed → Type 0
Passed f n g = (g.bytes ≡ f.bytes) × (g.window ≡ moved_by f.window n)

-- a log is read on
abbrev pub ReadOn : Feed → Result ⊤ Stopped → Feed → Type 0
ReadOn f r g = Fed f.bytes f.window g.window r g.bytes

-- a turn is its step; where a log has to show more, more is read of that log, and nothing else changes
unfoldable pub Comes : Pass → Result ⊤ Stopped → Pass → Step → Type 0
Comes p r q (step.Row m n same v) = (r ≡ Ok tt) × Passed p.first m q.first × Passed p.second n q.second × (q.walk ≡ v)
Comes p r q (step.Pair differs v) = (r ≡ Ok tt) × (q.first ≡ p.first) × (q.second ≡ p.second) × (q.walk ≡ v)
Comes p r q step.Over = (r ≡ Ok tt) × (q ≡ p)
Comes p r q (step.Wants log.First) = ReadOn p.first r q.first × (q.second ≡ p.second) × (q.walk ≡ p.walk)
Comes p r q (step.Wants log.Second) = ReadOn p.second r q.second × (q.first ≡ p.first) × (q.walk ≡ p.walk)

-- ---- that turns come to an end

unfoldable pub left_in_pass : Pass → ℕ
left_in_pass p = left_of p.first.window + left_of p.second.window + pick (untouched p.walk) 0 1

-- by a step, from p to q: less is left where it goes on
abbrev pub LessLeft : Pass → Result ⊤ Stopped → Pass → Step → Type 0
LessLeft p (Err e) q st = ⊤
LessLeft p (Ok x) q step.Over = ⊤
LessLeft p (Ok x) q (step.Wants l) = left_in_pass q < left_in_pass p
LessLeft p (Ok x) q (step.Row m n same v) = left_in_pass q < left_in_pass p
LessLeft p (Ok x) q (step.Pair differs v) = left_in_pass q < left_in_pass p
