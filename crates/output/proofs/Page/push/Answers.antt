-- `output::Page::push`: what there is room for stands behind what was formatted.
use Rattle.std.proofs.Common.{arith, rules}
use Rattle.output.proofs.Pages.{put_behind}
use Rattle.output.proofs.Page.push.Goals as goal

pub returns-clause-text : goal.returns-clause-text
returns-clause-text g c = put_behind g.row.N c.args.self.now.len c.args.self.now.bytes c.args.s.now (search rules) (omega arith) (search rules) (omega arith) (search rules)
