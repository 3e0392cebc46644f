-- The fourteen accesses of document 01: one table, one statement.
use Rattle.words.proofs.General.{◌≡◌, refl, map, table, pad_to, packed}
use Rattle.model.proofs.Terms.{in_range, tables_of, encode, sound_numbers, probe, rule_of, access, proceed, accept, send, fill, fill_line, tick, call, Case, cases, seen_of}

pub fourteen : map seen_of cases ≡ map (λ (c : Case). c.sees) cases
unfolding table pad_to packed in_range tables_of encode sound_numbers rule_of probe access proceed accept send fill fill_line tick call
fourteen = refl
