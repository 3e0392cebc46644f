-- A log through a buffer: the bytes that wait in it, and what reading on leaves.
use Rattle.std.specs.Prelude.{◌≡◌, ℕ, ◌+◌, ◌-◌, ◌*◌, ◌^◌, ◌<◌, ◌≤◌, Bool, true, false, ◌⊎◌, List, take, drop, ltb, ⊤, Option, Some, None, Result, OnOk}
use Rattle.words.specs.Words.{pick}
use Rattle.compare.specs.declared.page.Stopped.{Stopped}
use Rattle.compare.specs.declared.reading.Window.{Window}

abbrev pub window : ℕ → ℕ → ℕ → Bool → Window
window base at have ended = record { base = base; at = at; have = have; ended = ended }

-- before the first byte
abbrev pub unread : Window
unread = window 0 0 0 false

-- the bytes that wait
abbrev pub waiting_in : List ℕ → Window → List ℕ
waiting_in l w = take (w.have - w.at) (drop w.at l)

-- past n of them
abbrev pub moved_by : Window → ℕ → Window
moved_by w n = window w.base (w.at + n) w.have w.ended

-- n bytes of a buffer that begins at byte `base` of its log: no further than a place can say
unfoldable pub came_to : ℕ → ℕ → Option Window
came_to base n = pick (ltb (2 ^ 64 - 1 - base) n) None (Some (window base 0 n false))

-- the bytes that wait stand in a buffer of a size, and their places in the log have numbers
pub record WindowSound (size : ℕ) (w : Window) : Type 0 where
  pub within : w.at ≤ w.have
  pub buffered : w.have ≤ size
  pub placed : w.base + w.have < 2 ^ 64

-- what reading comes to: more bytes wait; or no more come
abbrev pub WindowGrown : ℕ → Window → Type 0
WindowGrown n w = ((n < w.have) × (w.ended ≡ false)) ⊎ ((w.have ≡ n) × (w.ended ≡ true))

-- after reading on, from the window w of the buffer l to v of l₁: the bytes that waited stand in front, and any others behind them, unless
-- reading failed
pub record Fed (l : List ℕ) (w : Window) (v : Window) (r : Result ⊤ Stopped) (l₁ : List ℕ) : Type 0 where
  pub kept : take (w.have - w.at) l₁ ≡ waiting_in l w
  pub front : v.at ≡ 0
  pub place : v.base ≡ w.base + w.at
  pub more : OnOk r (WindowGrown (w.have - w.at) v)

-- what is left: of the places, of the bytes that wait, the log's end
abbrev pub left_of : Window → ℕ
left_of w = 4 * (2 ^ 64 - (w.base + w.have)) + 2 * (w.have - w.at) + pick w.ended 0 1
