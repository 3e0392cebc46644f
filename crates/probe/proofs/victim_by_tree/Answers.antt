use Rattle.words.proofs.General.{rules}
use Rattle.probe.proofs.Scans.{or_first, or_second}
use Rattle.probe.proofs.victim_by_tree.Goals as goal

pub last_unused-free-requires : goal.last_unused-free-requires
last_unused-free-requires c = search rules

pub enum_known-free : goal.enum_known-free
enum_known-free c = search rules

pub enum_told-1 : goal.enum_told-1
enum_told-1 c = search rules

pub chosen_by_tree-requires : goal.chosen_by_tree-requires
chosen_by_tree-requires c = search rules

pub returns-in-Some : goal.returns-in-Some
returns-in-Some c = or_first _ c.last_unused-free.ensures c.in-Some.is

pub returns-in-None : goal.returns-in-None
returns-in-None c = or_second c.last_unused-free.ensures c.in-None.is c.chosen_by_tree.ensures
