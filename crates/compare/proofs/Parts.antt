-- The check part by part: what each part comes to, and that the parts are the log.
use Rattle.words.proofs.General.{ℕ, ◌+◌, ◌-◌, ◌^◌, ◌≤◌, ◌<◌, arith, ◌≡◌, refl, sym, ⊎_elim, Bool, true, pick, pick_both, List, [], ◌++◌, length, take, length-append, length-take-le, lt-ltb, le-ltb, lt_or_ge}
use Rattle.std.specs.Prelude.{Some, None}
use Rattle.comparing.specs.Coming.{check_beginning, passed_bytes}
use Rattle.comparing.proofs.InParts.{passed-append}
use Rattle.compare.specs.declared.checking.Check.{Check}
use Rattle.compare.specs.Checking.{started, came_of, Checked, PartRead}

pub started_checked : Checked started
unfolding passed_bytes
started_checked = record { bytes = []; checking = refl; read = refl }

-- the bytes that came are checked with those before
pub came_checked : {c r : Check} (l : List ℕ) → Checked c → Some r ≡ came_of l c → Checked r × (r.read ≡ c.read + length l) × (length l ≤ 2 ^ 64 - 1 - c.read)
unfolding came_of
came_checked {c} {r} l k e =
    ⊎_elim
    (λ z. let h : Some r ≡ None = rw (lt-ltb (2 ^ 64 - 1 - c.read) (length l) z) at e in cc)
    (λ z.
    let h : Some r ≡ Some (record { checking = passed_bytes c.checking l; read = c.read + length l }) = rw (le-ltb (2 ^ 64 - 1 - c.read) (length l) z) at e in
    let i : r ≡ record { checking = passed_bytes c.checking l; read = c.read + length l } = cc in
    let x = length-append k.bytes l in
    rw i (
      record {
        bytes = k.bytes ++ l;
        checking = rw k.checking (sym (passed-append check_beginning k.bytes l));
        read = omega arith;
      },
      refl,
      z,
    ))
    (lt_or_ge (2 ^ 64 - 1 - c.read) (length l))

module _ {c : Check} (l : List ℕ) (k : Checked c) {p : Check × Bool} (x : PartRead l c p) where
  pub part_checked : Checked p.0
  part_checked = ⊎_elim (λ e. rw e.0 k) (λ m. (came_checked (take m.n l) k m.is).0) x

  -- a part is a byte or more, or the last
  pub part_less : {more : Bool} → more ≡ true → pick p.1 (1 + (2 ^ 64 - p.0.read)) 0 < pick more (1 + (2 ^ 64 - c.read)) 0
  part_less t =
      ⊎_elim
      (λ e. rw (t, e.1) (omega arith))
      (λ m.
      let i = came_checked (take m.n l) k m.is in
      let r = i.1 in
      let w = i.2 in
      let j = length-take-le m.n l m.within in
      let s = m.some in
      let y : pick p.1 (1 + (2 ^ 64 - p.0.read)) 0 ≤ 1 + (2 ^ 64 - p.0.read) = pick_both (λ z. z ≤ 1 + (2 ^ 64 - p.0.read)) p.1 (omega arith) (omega arith) in
      rw t (omega arith))
      x
