-- What the proofs of the other crates take from the libraries and from this one, under one name, so that a file says it in a line.
pub use Prim.Native.Nat.{ℕ, zero, suc, ◌+◌, ◌-◌, ◌*◌, ◌/◌, ◌%◌, ◌^◌, ◌≤◌, ◌<◌, min, max, zero-le}
pub use native.Mathlib.Nat.{add_assoc, add-suc, add-zero, div-add-mod, div-add-mod', div-div-eq-div-mul, div-eq_of_lt, div-le_self, div-lt_iff_lt-mul, div-lt_self, div-one}
pub use native.Mathlib.Nat.{eq_of_mul-eq-mul_left, eq_of_mul-eq-mul_right, eq-or-lt_of_le, le-div_iff_mul-le, le-mul_of_pos_right, le_of_eq, le_of_suc-le-suc, le_trans}
pub use native.Mathlib.Nat.{lt_of_le_of_lt, lt_of_lt_of_le, lt_of_not-le, mod-add-mod, mod-eq_of_lt, mod-lt, mod-one, mul-add, mul-add-div_right, mul-add-mod_self_left}
pub use native.Mathlib.Nat.{mul_assoc, mul_comm, mul-div_cancel, mul-le-mul, mul-le-mul_left, mul-le-mul_right, mul_left_comm, mul-mod_left, mul-mod_right, mul-mul-mul_comm}
pub use native.Mathlib.Nat.{mul-one, mul-pos, mul-suc, mul-zero, not-le_of_lt, not-suc-le-zero, one-le-pow, one-mul, pos_of_ne-zero, pow-suc, pow-zero, sub-add-eq, sub-zero}
pub use native.Mathlib.Nat.{suc-add, suc-mul, zero-add, zero-div}
pub use native.Mathlib.Numerals.{add-one, add-two, towards_suc}
pub use native.Mathlib.Omega.{arith}
pub use mathlib.Core.Path.{◌≡◌, refl, sym, ◌∙◌, ap, ap₂, subst, fun_ext}
pub use mathlib.Core.Logic.{◌⊎◌, inl, inr, ⊎_elim, ◌≢◌, ◌↔◌}
pub use mathlib.Core.Bool.{Bool, true, false, not, ◌&&◌, ◌||◌, cond, beq as Bool·beq, and_assoc, and_comm, and-false, and-true, false≢true, not-and_self, or_assoc, or-false, or-true}
pub use mathlib.Core.Bool.{true≢false}
pub use mathlib.Core.List.{List, [], ◌∷◌, ◌++◌, map, append_assoc, append-nil, map-append}
unfoldable pub use mathlib.Core.List.{flat_map}
pub use lib.ListN.{length, get_or, set, take, drop, replicate, drop_of_length-le, get_or-replicate, length-append, length-drop, length-map, length-replicate, length-set}
pub use lib.ListN.{length-take, get_or-append as List·getD-append, get_or-eq_default as List·getD-eq-default, get_or-map as List·getD-map, replicate-append-replicate, take-append-drop}
pub use lib.Seq.{drop-append-add, drop-append-le, drop-append_seam, drop_at, drop-cons, drop-drop, drop-length, drop-paste, ext_get_or, get_or-append-add, get_or-append_seam}
pub use lib.Seq.{get_or-drop, get_or-set_other, get_or-set_same, get_or-take, length-paste, length-take-le, paste, paste-suc, set_comm, set-get_or, set-set, sets, sets-eq, take-add}
pub use lib.Seq.{take_all, take-append-le, take-append_seam, take_at, take-nil, take-paste, take-suc, take-take}
pub use lib.Dec.{eqb, leb, ltb, T, leb→le, le→leb, lit<, lit≤}
pub use borrow.Author.Tests.{eq-eqb, eqb-false, eqb-true, le-leb, le-ltb, leb-false, leb-true, lt-leb, lt-ltb, ltb-false, ltb-true, ne_eqb, not-false, not-true}
pub use borrow.Author.Rules.{rules}
pub use Rattle.words.specs.Words.{pick, all, any, count, keep, within, imp, same, one, every, some, count_below, joined}
unfoldable pub use Rattle.words.specs.Words.{table, pad_to, packed}
pub use Rattle.words.specs.Regions.{room, closed, offset_in, dropped}
unfoldable pub use Rattle.words.specs.Regions.{region, put, closed_up}
pub use Rattle.words.proofs.Flags.{and_1, and_2, and_i, and_no, or_cases, or_1, or_2, or_unless, or_no_1, or_no_2, flag, not_yes, false_is_true, clash, iff, not-no}
pub use Rattle.words.proofs.Flags.{no-not, no-yes, by_flag, pick_both, same_is, is_same, imp_use, imp_i, imp-idle, imp_met, not-both, not_either, not_but, told-yes}
pub use Rattle.words.proofs.Flags.{told-no, said_no, said_yes, and_four, or_four}
pub use Rattle.words.proofs.Lists.{In, all_in, in_all, in-any, any-in, in-keep, keep-in, keep-le, keep-lt, not_twice, count_ext, any_ext, count_keep, any_keep}
pub use Rattle.words.proofs.Lists.{get_or-inside, none_of, four_whole, in_get_or, in_index, in_take, in_drop, count_index, index-count, count_one, count_append, any_append}
pub use Rattle.words.proofs.Lists.{all_append, in_append, none_count, each, any_set-same, any_set, in_set-same, in_set_other, in_replicate, get_or-same, all_set, set-some}
pub use Rattle.words.proofs.Lists.{none-past, get_or-map_in, map_in, in_map, map-set, any_map, all_map, count_map}
pub use Rattle.words.proofs.Counting.{recount, count-length, one-counted, any-one, map-one}
pub use Rattle.words.proofs.Below.{lt_or_ge, leb_not, eqb_swap, by_suc, below_four, squeeze, last_or_below, every_at, every_i, Passed, passed_stop, passed_more}
pub use Rattle.words.proofs.Below.{passed_end, fault_stop, fault_none, some_i, some_at, Sought, sought_start, sought_stop, sought_more, sought_end, count_short, Counted}
pub use Rattle.words.proofs.Below.{counted_start, counted_yes, counted_no, counted_end, every-same, some_same, count_same}
pub use Rattle.words.proofs.Reflect.{Decides, is_flag, is_eq, is_le, is_lt, is_not, ◌⊓◌, is_or, is_imp, is_every, is_some, is_none, is_as, is_both, is_test, is_all}
pub use Rattle.words.proofs.Reflect.{is_any, is_one, is_pick, is_else}
pub use Rattle.words.proofs.Arrays.{words-length, words_below}
pub use Rattle.words.proofs.Region.{length-region, get_or-region, put_paste, get_or_paste_past, length-closed, Pasting, pasting_start, pasting_turn, pasting_done, Closing}
pub use Rattle.words.proofs.Region.{closing_start, closing_move, closing_zero, closing_done, sets_four, region-first, sets_append, put-set-inside, put-set-before}
pub use Rattle.words.proofs.Places.{put-past, put-within, put_whole, region_whole, sets_put, block_region, block_put, block_get, stride, length-pad_to, pad_to-zeros, pad_to-append}
pub use Rattle.words.proofs.Places.{pad_to_get, take-pad_to, Copying, copying_start, copying_turn, copying_done, length_places, block_size, field_put, field-region}
pub use Rattle.words.proofs.Places.{field_get, places_push_idle, places_same, places_past, field_push, field_extend, field_close_first}
pub use Rattle.words.proofs.Tabled.{length_table, get_or_table, table_same, list_table, table_list, table_snoc, part_table, all_table, any_table, all_get, any_get}
pub use Rattle.words.proofs.Tabled.{count_get}
