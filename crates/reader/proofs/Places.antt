-- The place behind a record and the part that holds its body, by what was read.
use Rattle.model.specs.declared.Body.{Body}
use Rattle.std.specs.Prelude.{Result, Ok, Err}
use Rattle.std.proofs.Common.{◌≡◌, ℕ, ◌+◌, ◌-◌, ◌≤◌, List, [], length, take, drop, sym, ◌∙◌, zero-add, arith}
use Rattle.std.specs.Borrow.{Bor}
use Rattle.records.proofs.Reading.{was_whole, body_whole, body_none}
use Rattle.model.proofs.Terms.{read_at}
use Rattle.model.specs.declared.Stop.{Stop}
use Rattle.reader.specs.Taken.{behind, PartOf}

module _ (s : List ℕ) (at : ℕ) {f : Result Body Stop} (p : f ≡ read_at s at) where
  pub behind_whole : {b : Body} → f ≡ Ok b → b.next ≡ behind s at
  unfolding behind
  behind_whole e = rw (sym p ∙ e)

  pub behind-none : {r : Stop} → f ≡ Err r → at ≡ behind s at
  unfolding behind
  behind-none e = rw (sym p ∙ e)

  -- the body lies in the stream
  pub body_ordered : {b : Body} → f ≡ Ok b → b.start ≤ b.next
  body_ordered e = omega (arith, was_whole s at _ _ _ _ (sym p ∙ e))

  pub body_within : {b : Body} → f ≡ Ok b → b.next ≤ length s
  body_within e = (was_whole s at _ _ _ _ (sym p ∙ e)).fits

module _ (s : Bor (List ℕ)) (at : ℕ) (p : Bor (List ℕ)) {f : Result Body Stop} (read : f ≡ read_at s.now at) where
  pub part_whole : {b : Body} → f ≡ Ok b → p.now ≡ take (b.next - b.start) (drop b.start s.now) → p.ref_ptr ≡ (s.ref_ptr.0, b.start + s.ref_ptr.1) → PartOf s at p
  part_whole {b} e i j = let g = sym read ∙ e in record { bytes = i ∙ body_whole s.now at b.kind b.start b.len b.next g; place = rw g j }

  pub part_none : {r : Stop} → f ≡ Err r → p.now ≡ [] → p.ref_ptr ≡ s.ref_ptr → PartOf s at p
  part_none {r} e i j = let g = sym read ∙ e in record { bytes = i ∙ body_none s.now at r g; place = rw (g, zero-add) j }
