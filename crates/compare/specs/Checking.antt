-- The check of a log of any length: what each part that is read comes to.
use Rattle.std.specs.Prelude.{◌≡◌, ℕ, ◌+◌, ◌-◌, ◌^◌, ◌<◌, ◌≤◌, Bool, false, not, ◌⊎◌, List, length, take, ltb, Option, Some, None, Result, Ok, Err}
use Rattle.words.specs.Words.{pick}
use Rattle.comparing.specs.declared.Fault.{Fault}
use Rattle.comparing.specs.Checks.{Told}
use Rattle.comparing.specs.Coming.{check_beginning, passed_bytes, fault_told}
use Rattle.compare.specs.declared.checking.Check.{Check}

abbrev pub started : Check
started = record { checking = check_beginning; read = 0 }

-- a part came: more than places can say; or it is passed
unfoldable pub came_of : List ℕ → Check → Option Check
came_of l c = pick (ltb (2 ^ 64 - 1 - c.read) (length l)) None (Some (record { checking = passed_bytes c.checking l; read = c.read + length l }))

-- n bytes came, which is the system's to say: they are checked, and more is wanted unless something is wrong
pub record CameToCheck (l : List ℕ) (c r : Check) (more : Bool) : Type 0 where
  pub n : ℕ
  pub some : 0 < n
  pub within : n ≤ length l
  pub is : Some r ≡ came_of (take n l) c
  pub goes : more ≡ not r.checking.wrong

-- the log ends there; or more of it came
abbrev pub PartRead : List ℕ → Check → Check × Bool → Type 0
PartRead l c p = ((p.0 ≡ c) × (p.1 ≡ false)) ⊎ CameToCheck l c p.0 p.1

-- the check of the bytes that came, all of them
pub record Checked (c : Check) : Type 0 where
  pub bytes : List ℕ
  pub checking : c.checking ≡ passed_bytes check_beginning bytes
  pub read : c.read ≡ length bytes

abbrev pub by_fault : ℕ → Told → Result ℕ Fault
by_fault read (Ok x) = Ok read
by_fault read (Err f) = Err f

-- what is told of the bytes that came: a good log's bytes, or what is wrong
unfoldable pub check_verdict : Check → Result ℕ Fault
check_verdict c = by_fault c.read (fault_told c.checking)
