-- The kind, the numbers, the rule.
use Rattle.words.proofs.General.{arith, refl, rules}
use Rattle.model.specs.RecordsOf as records
use Rattle.model.proofs.Terms.{bytes_of}
use Rattle.records.proofs.Stores.{laid_then, laid_as, laid_sized}
use Rattle.records.proofs.Encoding.{settings-bytes}
use Rattle.records.proofs.writer.put_settings.Goals as goal

pub put-i-requires : goal.put-i-requires
unfolding records.command_bytes bytes_of
put-i-requires c = search rules

pub put_numbers-j-requires : goal.put_numbers-j-requires
unfolding records.command_bytes bytes_of
put_numbers-j-requires c = search rules

pub put_rule-requires : goal.put_rule-requires
unfolding records.command_bytes bytes_of
put_rule-requires c = search rules

pub returns : goal.returns
unfolding records.command_bytes bytes_of
returns c =
    let g = c.args.g in
    laid_sized
    (laid_as
    (laid_then c.put-i.ensures refl (laid_then c.put_numbers-j.ensures refl c.put_rule.ensures))
    (settings-bytes g c.settings_kind.ensures))
    (omega arith)
