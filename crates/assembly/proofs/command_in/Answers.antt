-- By the first word.
use Rattle.words.proofs.General.{sym}
use Rattle.assembly.specs.Language.{command_in, forms, by_word, settings_form, read_form, write_form, send_form, parts_from, fill_form, tick_form}
use Rattle.assembly.proofs.command_in.Goals as goal

pub returns-then-word_is : goal.returns-then-word_is
unfolding command_in forms by_word settings_form
returns-then-word_is c = rw (← c.skip_spaces-at.ensures, ← c.word_end-end.ensures, sym c.if-word_is.ensures) c.settings.ensures

pub returns-then-word_is-2 : goal.returns-then-word_is-2
unfolding command_in forms by_word settings_form read_form
returns-then-word_is-2 c = rw (← c.skip_spaces-at.ensures, ← c.word_end-end.ensures, sym c.if-word_is.ensures, sym c.if-word_is-2.ensures) c.read.ensures

pub returns-then-word_is-3 : goal.returns-then-word_is-3
unfolding command_in forms by_word settings_form read_form write_form
returns-then-word_is-3 c = rw (← c.skip_spaces-at.ensures, ← c.word_end-end.ensures, sym c.if-word_is.ensures, sym c.if-word_is-2.ensures, sym c.if-word_is-3.ensures) c.write.ensures

pub returns-then-word_is-4 : goal.returns-then-word_is-4
unfolding command_in forms by_word settings_form read_form write_form send_form parts_from
returns-then-word_is-4 c = rw (← c.skip_spaces-at.ensures, ← c.word_end-end.ensures, sym c.if-word_is.ensures, sym c.if-word_is-2.ensures, sym c.if-word_is-3.ensures, sym c.if-word_is-4.ensures) c.ended.ensures

pub returns-then-word_is-5 : goal.returns-then-word_is-5
unfolding command_in forms by_word settings_form read_form write_form send_form fill_form
returns-then-word_is-5 c = rw (← c.skip_spaces-at.ensures, ← c.word_end-end.ensures, sym c.if-word_is.ensures, sym c.if-word_is-2.ensures, sym c.if-word_is-3.ensures, sym c.if-word_is-4.ensures, sym c.if-word_is-5.ensures) c.fill.ensures

pub returns-then-word_is-6 : goal.returns-then-word_is-6
unfolding command_in forms by_word settings_form read_form write_form send_form fill_form tick_form
returns-then-word_is-6 c = rw (← c.skip_spaces-at.ensures, ← c.word_end-end.ensures, sym c.if-word_is.ensures, sym c.if-word_is-2.ensures, sym c.if-word_is-3.ensures, sym c.if-word_is-4.ensures, sym c.if-word_is-5.ensures, sym c.if-word_is-6.ensures) c.tick.ensures

pub returns-else-word_is-6 : goal.returns-else-word_is-6
unfolding command_in forms by_word settings_form read_form write_form send_form fill_form tick_form
returns-else-word_is-6 c = rw (← c.skip_spaces-at.ensures, ← c.word_end-end.ensures, sym c.if-word_is.ensures, sym c.if-word_is-2.ensures, sym c.if-word_is-3.ensures, sym c.if-word_is-4.ensures, sym c.if-word_is-5.ensures, sym c.if-word_is-6.ensures)
