-- More accesses, made as the fourteen are: one for each rule of document 01 that those leave open, and some under each replacement rule.
-- A table and a statement each.
use Rattle.words.proofs.General.{◌≡◌, refl, map, table, pad_to, packed}
use Rattle.model.proofs.Terms.{in_range, tables_of, encode, sound_numbers, tree_bit, with_bit, goes, descent, turned, levels, probe, rule_of, access, proceed, accept, send, fill}
use Rattle.model.proofs.Terms.{fill_line, tick, call, Case, more_cases, rule_cases, seen_of, turned_by, tree_cases, trees_left}

pub more_cases_lem : map seen_of more_cases ≡ map (λ (c : Case). c.sees) more_cases
unfolding table pad_to packed in_range tables_of encode sound_numbers rule_of probe access proceed accept send fill fill_line tick call
more_cases_lem = refl

pub rule-cases : map seen_of rule_cases ≡ map (λ (c : Case). c.sees) rule_cases
unfolding table pad_to packed in_range tables_of encode sound_numbers rule_of probe access proceed accept send fill fill_line tick call
rule-cases = refl

pub tree_cases_lem : map (λ c. turned_by c.0 c.1) tree_cases ≡ trees_left
unfolding table pad_to packed in_range tables_of encode sound_numbers rule_of probe access proceed accept send fill fill_line tick call tree_bit with_bit goes descent turned levels
tree_cases_lem = refl
