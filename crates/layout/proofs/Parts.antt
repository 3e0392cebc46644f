-- A part of a slice that a method wrote, `s[a..e].fill(v)` say, as numbers that are put in their place.
use Rattle.words.proofs.General.{ℕ, ◌+◌, ◌≤◌, ◌≡◌, refl, ◌∙◌, sym, ap, arith, List, length, take, drop, replicate, length-replicate, length-take-le, length-drop, put, put_paste}
use borrow.Rule.Slice.PartMut.{put_mid}
use Rattle.std.proofs.lemmas.Slice.{put_mid-paste}

pub part_put : (l : List ℕ) (at n : ℕ) (ys r : List ℕ) → ys ≡ r → length r ≡ n → put_mid at n l ys ≡ put l at r
part_put l at n ys r e len = put_mid-paste at n l ys r n e refl (sym len) ∙ put_paste l at r n len

-- filled with one number
pub part_filled : (l : List ℕ) (at n v : ℕ) {ys : List ℕ} → at + n ≤ length l → ys ≡ replicate (length (take n (drop at l))) v → put_mid at n l ys ≡ put l at (replicate n v)
part_filled l at n v {ys} h e =
    let long : length (take n (drop at l)) ≡ n = length-take-le n (drop at l) (rw length-drop (omega arith)) in
    part_put l at n ys (replicate n v) (e ∙ ap (λ (k : ℕ). replicate k v) long) (length-replicate n v)
