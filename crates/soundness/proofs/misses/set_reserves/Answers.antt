use Rattle.words.proofs.General.{ℕ, Bool, ◌*◌, ◌+◌, ◌-◌, arith, eqb, ◌≡◌, ◌&&◌, ◌∙◌, refl, rules}
use Rattle.words.proofs.Ranged.{some-from_part}
use Rattle.model.proofs.Terms.{tag_at, status_at}
use Rattle.soundness.proofs.OfMisses.{set_asked}
use Rattle.soundness.proofs.misses.set_reserves.Goals as goal

pub returns : goal.returns
returns c =
    let t = c.args.t.now in
    let s = t.geometry.settings in
    let k = c.set_index.result in
    let here : ℕ → Bool = λ l. eqb (tag_at t.longs.now l) c.block_of-block.result.0 && eqb (status_at t.marks.now (4 * l + c.sector_index-sector.result)) 1 in
    let ways : k * s.ways + s.ways - k * s.ways ≡ s.ways = omega arith in
    some-from_part (k * s.ways) (k * s.ways + s.ways) here refl (λ x b q h. search rules) c.any.ensures.ran
    ∙ rw ways (set_asked s t.longs.now t.words.now t.marks.now c.args.a.0 _ _ _ c.block_of-block.ensures c.sector_index-sector.ensures.0 c.set_index.ensures)
