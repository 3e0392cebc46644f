-- Text put behind text, as far as there is room.
use Rattle.std.proofs.Common.{ℕ, ◌+◌, ◌-◌, ◌≤◌, min, arith, ◌≡◌, ap, ◌∙◌, sym, List, ◌++◌, length, take}
use Rattle.std.proofs.lemmas.List.{length-take-le, take_min}
use Rattle.std.proofs.lemmas.Slice.{take-put_mid}
use Rattle.std.proofs.Math.Seq.{take-append-add}
use borrow.Rule.Slice.PartMut.{put_mid}

-- the first n of the bytes s, which there is room for, behind the first `len` of `room` bytes
pub put_behind : (room len : ℕ) (bytes s : List ℕ) {n k : ℕ} {ys : List ℕ} → length bytes ≡ room → len ≤ room → n ≡ min (length s) (room - len) → k ≡ n → ys ≡ take n s
    → take (len + n) (put_mid len k bytes ys) ≡ take room (take len bytes ++ s)
put_behind room len bytes s {n} {k} {ys} b h i j y =
    let m : n ≡ min (room - len) (length s) = omega arith in
    let t : ys ≡ take (room - len) s = y ∙ ap (λ x. take x s) m ∙ take_min (room - len) s in
    let z : length ys ≡ n = ap length y ∙ length-take-le n s (omega arith) in
    let f : length (take len bytes) ≡ len = length-take-le len bytes (omega arith) in
    let e : length (take len bytes) + (room - len) ≡ room = omega arith in
    take-put_mid len k bytes ys (len + n) (omega arith) (omega arith)
    ∙ ap (λ x. take len bytes ++ x) t
    ∙ sym (take-append-add (take len bytes) s (room - len))
    ∙ ap (λ x. take x (take len bytes ++ s)) e
