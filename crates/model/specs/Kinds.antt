-- "One byte of kind": the number of each kind, named once.
use Rattle.std.specs.Prelude.{ℕ}

-- ---- commands

abbrev pub settings : ℕ
settings = 0

-- settings with a rule byte (L1)
abbrev pub ruled : ℕ
ruled = 6

abbrev pub read : ℕ
read = 1

abbrev pub write : ℕ
write = 2

abbrev pub send : ℕ
send = 3

abbrev pub fill : ℕ
fill = 4

abbrev pub tick : ℕ
tick = 5

-- ---- events

abbrev pub answer : ℕ
answer = 0x10

abbrev pub refused : ℕ
refused = 0x11

abbrev pub read_queued : ℕ
read_queued = 0x12

abbrev pub write_back_queued : ℕ
write_back_queued = 0x13

abbrev pub released : ℕ
released = 0x14

abbrev pub read_sent : ℕ
read_sent = 0x15

abbrev pub write_back_sent : ℕ
write_back_sent = 0x16

abbrev pub filled : ℕ
filled = 0x17

abbrev pub ticked : ℕ
ticked = 0x18
