-- Reading up to the first record.
use Rattle.std.specs.Prelude.{◌≡◌, ℕ, ◌+◌, ◌^◌, ◌≤◌, true, List, length, take}
use Rattle.words.specs.Words.{pick}
use Rattle.running.specs.Begin.{first_there}
use Rattle.streaming.specs.declared.work.Next.{Next}
use Rattle.streaming.specs.declared.work.Next.TheVariants as next
use Rattle.streaming.specs.declared.work.Work.{Work}
use Rattle.streaming.specs.Works.{start_of}

-- once the first record is there, nothing behind it changes what it comes to
abbrev pub after_reading : List ℕ → Next
after_reading s = pick (first_there s) next.Run next.Read

-- why no more is read, with the first n bytes of a buffer there: the first record is; the system said that the input ends behind them;
-- reading failed
abbrev pub NoMoreRead : Next → ℕ → List ℕ → Type 0
NoMoreRead next.Read n buf = Unit
NoMoreRead next.Run n buf = first_there (take n buf) ≡ true
NoMoreRead next.Stopped n buf = ⊥
NoMoreRead (next.Ended e) n buf = e.behind ≡ n
NoMoreRead next.Failed n buf = Unit

-- nothing has run; the bytes that came all wait in the buffer, and with those that may still come they are 2^64 - 1
pub record Opened (buf : List ℕ) (w : Work) : Type 0 where
  pub new : w ≡ start_of w.have w.left w.next
  pub inside : w.have ≤ length buf
  pub all : w.have + w.left + 1 ≡ 2 ^ 64
  pub asked : NoMoreRead w.next w.have buf
