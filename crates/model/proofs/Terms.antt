-- The definitions that the proofs name, under one name, in the specification's order. The types that the code declares are not passed on: a file names them where they are declared.
pub use Rattle.model.specs.Numbers.{status_number, status_of, queue_kind_number, queue_kind_of, answer_number, refusal_number, stop_number}
pub use Rattle.model.specs.Range.{power_to256, lines_of, is_fifo, is_tree, rule_fine}
unfoldable pub use Rattle.model.specs.Range.{in_range}
pub use Rattle.model.specs.Address.{block_of, sector_address_of, sector_index, set_index, line_number, address_of, mask_of, is_read, good_sector, good_block, well_formed}
pub use Rattle.model.specs.Tables.{Line, Entry, reading, writing, Tables, with_lines, with_misses, with_queue, with_now, with_dirty_count, with_trees, is_invalid, is_reserved}
pub use Rattle.model.specs.Tables.{is_modified, wholly_invalid, has_reserved, dirty, dirty_lines, holds, entry_for, no_entry, is_fetch, idle, empty, emptied, fresh, start}
pub use Rattle.model.specs.Tables.{Outcome, after, events_of, accepted, done, refused}
pub use Rattle.model.specs.Layout.{long_sizes, word_sizes, mark_sizes, tag_region, miss_region, queue_region, cycle_region, mask_region, ticket_region, queue_mask_region}
pub use Rattle.model.specs.Layout.{dirty_count_region, taken_region, tree_region, status_region, readable_region, sent_region, ticket_count_region, kind_region, offset_from}
pub use Rattle.model.specs.Layout.{offset_of, longs_length, words_length, marks_length, longs_from, words_from, marks_from}
pub use Rattle.model.specs.Lent.{Lent, lent, lengths_fit, tag_at, cycle_at, taken_at, status_at, mask_at, readable_at, miss_at, sent_at, ticket_count_at, ticket_at, queued_at}
pub use Rattle.model.specs.Lent.{queue_kind_at, queue_mask_at, now_at, dirty_count_at, tree_at, sector_at, sectors_at, line_at, entry_at, queue_at, in_use, lines_in, bit, tag_of}
pub use Rattle.model.specs.Lent.{cycle_of, taken_of, masks_of, statuses_of, readables_of, miss_of, sent_of, ticket_count_of, tickets_in, queued_of, kind_of, queue_masks_of, tree_of}
pub use Rattle.model.specs.Lent.{long_blocks, word_blocks, mark_blocks}
unfoldable pub use Rattle.model.specs.Lent.{tables_of, encode}
pub use Rattle.model.specs.Sound.{all_ones, last_cycle, mask_ok, sector_ok, agrees, reading_of, unsent_for, kind_ok}
unfoldable pub use Rattle.model.specs.Sound.{line_ok, alone, reserved_ok, entry_ok, queued_ok, sound}
pub use Rattle.model.specs.SoundLent.{gathered, live, entry_at_for, unsent_at_for, read_for, reserved_for, now_fine, apart, line_fine, sector_shape, sector_backed, sector_fine}
pub use Rattle.model.specs.SoundLent.{ticket_fine, entry_fine, place_fine, dirty_line, count_fine, set_fine, lines_fine, sound_lent, Small}
unfoldable pub use Rattle.model.specs.SoundLent.{sound_numbers}
pub use Rattle.model.specs.Tree.{is_in, named, pointed, some_from, tree_choice, side_of, touched_tree, power_to16, halvings, tree_fine, Span}
unfoldable pub use Rattle.model.specs.Tree.{tree_bit, with_bit, goes, descent, turned, levels}
pub use Rattle.model.specs.Probe.{answers, column_of, answer_at, answer_of, ways_of, enough_dirty, candidate, next, or_else, first, last, older, earliest, age, Rule, choice_by}
pub use Rattle.model.specs.Probe.{Rules, victim, Spot, Place, write_back, take_over, meet, met_under, met_in, at, by_key, by_tree, no}
unfoldable pub use Rattle.model.specs.Probe.{rule_of, probe}
pub use Rattle.model.specs.Steps.{is_hit, is_merge, is_miss, on_sector, update, takes_line, taken_by, recounted, turned_for, join, on_misses, fetches, queues, queued_as}
pub use Rattle.model.specs.Steps.{queued_event, sent_as, sent_event, places_needed, line_after, after_access, entry_full, access_under, mark, marked_for, marked, after_send}
pub use Rattle.model.specs.Steps.{send_from, arrived, tickets_of, others, soiled, after_fill, sent_for}
unfoldable pub use Rattle.model.specs.Steps.{accept, proceed, access, send, fill_line, fill, tick}
pub use Rattle.model.specs.Counted.{met_counting}
unfoldable pub use Rattle.model.specs.Counted.{access_counting}
pub use Rattle.model.specs.Meetings.{Matched, Replaced, Queues}
pub use Rattle.model.specs.Calls.{encoded, sizes_checked, access_call, send_call, fill_call, tick_call, check_call, fresh_call, verdict_of, in_two, Leaves}
unfoldable pub use Rattle.model.specs.Calls.{call, events_told, tidied}
pub use Rattle.model.specs.History.{Call, step_under, step_by, make, SmallCall, AllSmall, Made, events_made, filling, offer, sending, ticking}
unfoldable pub use Rattle.model.specs.History.{history, tables_left}
pub use Rattle.model.specs.Records.{command_kinds, event_kinds, is_command, is_settings, record_kind_of, body_bytes, event_body, command_kind, command_body, command_in, wait_room}
pub use Rattle.model.specs.Records.{fill_bytes, settle_bytes, round_bytes, Kind, body_in, bytes, given_bytes, no_kind, parsed, refusals, refused_by, rule_bytes, settings_in}
pub use Rattle.model.specs.Records.{settings_kind}
unfoldable pub use Rattle.model.specs.Records.{length_of, event_bytes, log_bytes, event_of, command_bytes, command_of, read_at, body_at, event_at, command_at, events_from, events_in}
unfoldable pub use Rattle.model.specs.Records.{bytes_of, number_at}
pub use Rattle.model.specs.Runner.{event_room, settings_of, record_stop, room_stop, RunResult, Runs, bytes_then, command_mask, goes_on, halt, kept_stop, lent_result, settings_stop}
pub use Rattle.model.specs.Runner.{step_of, step_read}
unfoldable pub use Rattle.model.specs.Runner.{first_stop, later_stop, step_at, run_from, run, resume}
pub use Rattle.model.specs.Separate.{call_read}
unfoldable pub use Rattle.model.specs.Separate.{call_at, calls_from, run_by_calls, resume_by_calls}
pub use Rattle.model.specs.Rounds.{Calls, steps, calls, Turn, still, took, and_then, Run, outcome_go_on, is_empty, outcome_held, outcome_waits, Settles}
unfoldable pub use Rattle.model.specs.Rounds.{outcome_send, outcome_fill, outcome_drain, outcome_rounds}
pub use Rattle.model.specs.Seen.{SeenCalls, answering, refusing, accepts, but11, comparable, Course, go_on, marks, held_in, waits, Demand3, seen, seen_steps, seen_calls}
unfoldable pub use Rattle.model.specs.Seen.{send_turn, fill_first, drain, rounds, struck}
pub use Rattle.model.specs.Cases.{Case, base, r, w, cases, seen_of, more_cases, rule_cases, turned_by, tree_cases, trees_left}
pub use Rattle.model.specs.WholeRun.{stream, written, left_by_run}
pub use Rattle.model.specs.Inner.{told, Sized, Encodes, SoundSlices, Does, aside}
pub use Rattle.model.specs.ReplyShape.{of_access, of_send, of_fill, of_tick, Shaped}
