-- Fill, from what its parts ensure.
use Rattle.words.proofs.General.{mul-le-mul_left, pos_of_ne-zero, arith, refl, ap, not, rules, stride}
use Rattle.steps.proofs.Filling.{line_fits, fill-refused, fill-inside, fill-count, fill-holding, fill-row, fill-leaves, reply_releases}
use Rattle.layout.proofs.ByBlocks.{is_stands}
use Rattle.model.proofs.SoundFacts.{parts}
use Rattle.encoding.proofs.Bridge.{is_fit}
use Rattle.steps.proofs.fill_counted.Goals as goal

pub find_entry-e-requires : goal.find_entry-e-requires
find_entry-e-requires c = let fit = is_fit _ _ _ c.requires.0.are in omega arith

pub is_sent-requires : goal.is_sent-requires
is_sent-requires c = let fit = is_fit _ _ _ c.requires.0.are in omega arith

pub returns-then-not-is_sent : goal.returns-then-not-is_sent
returns-then-not-is_sent c = search (rules, fill-refused)

pub bounds-marks-g : goal.bounds-marks-g
bounds-marks-g c =
    let z = is_fit _ _ _ c.requires.0.are in let p = c.args.g.laid in let u = c.requires.1 in
    let k = fill-inside _ _ _ c.requires.0.are p u c.find_entry-e.ensures c.is_sent.ensures (ap not c.if-not-is_sent.false) in
    let n = u.most in omega arith

pub copy_out-tickets-requires : goal.copy_out-tickets-requires
copy_out-tickets-requires c =
    let i = c.requires.0.are in let z = is_fit _ _ _ i in let p = c.args.g.laid in let u = c.requires.1 in let f = c.find_entry-e in
    let k = fill-inside _ _ _ i p u f.ensures c.is_sent.ensures (ap not c.if-not-is_sent.false) in let m = fill-count _ _ _ i p u f.ensures c.is_sent.ensures (ap not c.if-not-is_sent.false) in
    let n = u.most in
    let s = stride c.args.g.settings.readers c.args.g.settings.misses f.result (omega arith) in (pos_of_ne-zero (u.before _ k), omega arith, omega arith)

pub fill_line-requires-clause-sized : goal.fill_line-requires-clause-sized
fill_line-requires-clause-sized c = is_fit _ _ _ c.requires.0.are

pub fill_line-requires-clause-holding : goal.fill_line-requires-clause-holding
fill_line-requires-clause-holding c =
    fill-holding _ _ _ c.requires.0.are c.args.g.laid c.requires.1 c.find_entry-e.ensures c.is_sent.ensures (ap not c.if-not-is_sent.false)

pub fill_line-requires-clause-by_index : goal.fill_line-requires-clause-by_index
fill_line-requires-clause-by_index c =
    let i = c.requires.0.are in let z = is_fit _ _ _ i in λ l b. line_fits _ _ (parts _ _ i.soundly) (is_stands i) c.args.g.laid l b z.lines

pub remove-requires-clause-le_count : goal.remove-requires-clause-le_count
remove-requires-clause-le_count c =
    let s = c.args.g.settings in
    let i = c.requires.0.are in let z = is_fit _ _ _ i in let p = c.args.g.laid in let u = c.requires.1 in
    let k = fill-inside _ _ _ i p u c.find_entry-e.ensures c.is_sent.ensures (ap not c.if-not-is_sent.false) in
    let n = u.most in
    let row = stride s.readers s.misses c.find_entry-e.result (omega arith) in
    fill-row _ _ _ i p u c.find_entry-e.ensures c.is_sent.ensures (ap not c.if-not-is_sent.false) row.2 refl c.fill_line.ensures (omega arith)

pub remove-requires-clause-e_lt_n : goal.remove-requires-clause-e_lt_n
remove-requires-clause-e_lt_n c =
    let i = c.requires.0.are in let z = is_fit _ _ _ i in let p = c.args.g.laid in let u = c.requires.1 in
    let k = fill-inside _ _ _ i p u c.find_entry-e.ensures c.is_sent.ensures (ap not c.if-not-is_sent.false) in
    let n = u.most in
    let m = mul-le-mul_left c.args.g.settings.readers u.most in
    (k, omega arith, omega arith, omega arith, omega arith)

pub returns : goal.returns
returns c =
    let i = c.requires.0.are in let z = is_fit _ _ _ i in let p = c.args.g.laid in let u = c.requires.1 in let f = c.find_entry-e in
    let sent = ap not c.if-not-is_sent.false in
    let k = fill-inside _ _ _ i p u f.ensures c.is_sent.ensures sent in let m = fill-count _ _ _ i p u f.ensures c.is_sent.ensures sent in
    let n = u.most in
    let s = stride c.args.g.settings.readers c.args.g.settings.misses f.result (omega arith) in
    let told = reply_releases c.args.address c.args.words.now _ _ (omega arith) c.copy_out-tickets.ensures c.blank.ensures in
    record { on = λ t i. fill-leaves _ _ t i p u f.ensures c.is_sent.ensures sent told c.fill_line.ensures c.remove.ensures }
