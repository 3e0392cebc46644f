use Rattle.words.proofs.General.{◌+◌, ◌*◌, ◌/◌, ◌≡◌, every, refl, rules, sym, ◌∙◌}
use Rattle.words.proofs.Ranged.{every-from_all}
use Rattle.model.specs.SoundLent as is
use Rattle.model.proofs.Terms.{lines_of}
use Rattle.layout.specs.Held.{held}
use Rattle.soundness.proofs.Tests.{sixteens_stop, sixteens_end}
use Rattle.soundness.proofs.lines.sectors_backed.Goals as goal

pub returns-then-all : goal.returns-then-all
returns-then-all c =
    let t = c.args.f.now.slices in
    let n = 4 * lines_of t.geometry.settings in
    let p = held t is.sector_backed in
    let e : c.all.result ≡ every (n / 16) (λ g. every 16 (λ k. p (16 * g + k))) = every-from_all (n / 16) (λ g. every 16 (λ k. p (16 * g + k))) refl (λ x b q k. search rules) c.all.ensures.ran in
    sixteens_end p n (sym c.if-all.true ∙ e) c.backed_from.ensures

pub returns-else-all : goal.returns-else-all
returns-else-all c =
    let t = c.args.f.now.slices in
    let n = 4 * lines_of t.geometry.settings in
    let p = held t is.sector_backed in
    let e : c.all.result ≡ every (n / 16) (λ g. every 16 (λ k. p (16 * g + k))) = every-from_all (n / 16) (λ g. every 16 (λ k. p (16 * g + k))) refl (λ x b q k. search rules) c.all.ensures.ran in
    c.if-all.false ∙ sixteens_stop p n (sym c.if-all.false ∙ e)
