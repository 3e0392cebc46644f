-- What a line means: words and numbers in order, each number within its field, a comment from `#` on.
--     settings sets N ways N dirty N misses N readers N queue N        settings .. queue N rule RULE, a RULE being a name or a number
--     read ADDRESS ticket N        write ADDRESS mask N        send        fill ADDRESS        tick CYCLE
use Rattle.std.specs.Prelude.{ℕ, suc, Bool, ◌&&◌, List, [], ◌∷◌, length, get_or, set, replicate, eqb, leb, Option, Some, None, Result, Ok, Err}
use Prim.Native.String.{String}
use Rattle.std.specs.Option.{ok_or}
use Rattle.words.specs.Words.{pick}
use Rattle.model.specs.declared.Given.{Given}
use Rattle.model.specs.declared.Command.{Command}
use Rattle.model.specs.declared.Command.TheVariants as cmd
use Rattle.text.specs.Words.{codes, skip_spaces, word_end, word_at, same_text}
use Rattle.text.specs.Digits.{parse_number}
use Rattle.text.specs.Rules.{rule_named}
use Rattle.text.specs.declared.Number.{Number}
use Rattle.text.specs.declared.NotANumber.{NotANumber}
use Rattle.records.specs.Parts.{given}
use Rattle.assembly.specs.declared.Expected.{Expected}
use Rattle.assembly.specs.declared.Expected.TheVariants as expected

-- what a line comes to behind its command's word, or what it lacks
abbrev pub Parsed : Type 0
Parsed = Result Command Expected

-- a number that is a whole word and within its field
abbrev pub whole_number : ℕ → List ℕ → Result Number NotANumber → Option Number
whole_number most s (Ok n) = pick (leb n.value most && eqb (word_end s n.next) n.next) (Some n) None
whole_number most s (Err e) = None

-- the next word is such a number
unfoldable pub number_next : ℕ → List ℕ → ℕ → Option Number
number_next most s at = whole_number most s (parse_number s (skip_spaces s at))

abbrev pub word_is : List ℕ → ℕ → List ℕ → Bool
word_is s at w = same_text (word_at s at) w

-- the next word is w, and f is behind it; where w is empty, f is next
unfoldable pub behind_word : List ℕ → (List ℕ → ℕ → Option Number) → List ℕ → ℕ → Option Number
behind_word w f s at =
    pick (eqb (length w) 0) (f s at) (
    pick (word_is s (skip_spaces s at) w) (f s (word_end s (skip_spaces s at))) None)

-- such a number behind the word w, if that is not empty
abbrev pub field_next : List ℕ → ℕ → List ℕ → ℕ → Option Number
field_next w most = behind_word w (number_next most)

-- a rule: the word at start, behind `at`, names it, or is a number of a byte
abbrev pub rule_by : List ℕ → ℕ → ℕ → Option ℕ → Option Number
rule_by s at start (Some n) = Some (record { value = n; next = word_end s start })
rule_by s at start None = number_next 0xff s at

unfoldable pub rule_value : List ℕ → ℕ → Option Number
rule_value s at = rule_by s at (skip_spaces s at) (rule_named (word_at s (skip_spaces s at)))

abbrev pub rule_next : List ℕ → ℕ → Option Number
rule_next = behind_word (codes "rule") rule_value

-- the field, and what follows it; without it the line is bad
abbrev pub then_number : Result Number Expected → (ℕ → ℕ → Parsed) → Parsed
then_number (Ok n) f = f n.value n.next
then_number (Err x) f = Err x

abbrev pub then_field : Expected → Option Number → (ℕ → ℕ → Parsed) → Parsed
then_field x n = then_number (ok_or n x)

-- no word is left
abbrev pub ends_at : List ℕ → ℕ → Bool
ends_at s at = eqb (word_end s (skip_spaces s at)) (skip_spaces s at)

unfoldable pub whole_line : List ℕ → ℕ → Command → Parsed
whole_line s at c = pick (ends_at s at) (Ok c) (Err expected.End)

-- ---- settings

-- the settings without a rule, and the rule behind them if there is one
unfoldable pub with_rule : Given → List ℕ → ℕ → Parsed
with_rule g s at =
    pick (ends_at s at) (Ok (cmd.Settings g))
    (then_field expected.Rule (rule_next s at) (λ rule a. whole_line s a (cmd.Settings (record g { rule = Some rule }))))

abbrev pub rule_behind : (ℕ → ℕ) → List ℕ → ℕ → Parsed
rule_behind n = with_rule (given (n 0) (n 1) (n 2) (n 3) (n 4) (n 5) None)

-- ---- the table of lines

-- a part of a line: a word, which may be empty, and the number behind it; its largest number; what a line without it lacks
pub record FormPart : Type 0 where
  pub word : List ℕ
  pub most : ℕ
  pub lacks : Expected

abbrev pub form_part : String → ℕ → Expected → FormPart
form_part w n x = record { word = codes w; most = n; lacks = x }

-- a command: its word, its parts, and what their numbers come to, by the rest of the line
pub record Form : Type 0 where
  pub word : List ℕ
  pub parts : List FormPart
  pub comes : (ℕ → ℕ) → List ℕ → ℕ → Parsed

abbrev pub form : String → List FormPart → ((ℕ → ℕ) → List ℕ → ℕ → Parsed) → Form
form w ps f = record { word = codes w; parts = ps; comes = f }

unfoldable pub settings_form : Form
settings_form =
    form "settings" (
    form_part "sets" 0xffff expected.Sets ∷
    form_part "ways" 0xff expected.Ways ∷
    form_part "dirty" 0xff expected.Dirty ∷
    form_part "misses" 0xff expected.Misses ∷
    form_part "readers" 0xff expected.Readers ∷
    form_part "queue" 0xff expected.Queue ∷ [])
    rule_behind

unfoldable pub read_form : Form
read_form = form "read" (form_part "" 0xffffffffffffffff expected.Address ∷ form_part "ticket" 0xffffffff expected.Ticket ∷ []) (λ n s at. whole_line s at (cmd.Read (n 0) (n 1)))

unfoldable pub write_form : Form
write_form = form "write" (form_part "" 0xffffffffffffffff expected.Address ∷ form_part "mask" 0xffffffff expected.Mask ∷ []) (λ n s at. whole_line s at (cmd.Write (n 0) (n 1)))

unfoldable pub send_form : Form
send_form = form "send" [] (λ n s at. whole_line s at cmd.Send)

unfoldable pub fill_form : Form
fill_form = form "fill" (form_part "" 0xffffffffffffffff expected.Address ∷ []) (λ n s at. whole_line s at (cmd.Fill (n 0)))

unfoldable pub tick_form : Form
tick_form = form "tick" (form_part "" 0xffffffff expected.Cycle ∷ []) (λ n s at. whole_line s at (cmd.Tick (n 0)))

unfoldable pub forms : List Form
forms = settings_form ∷ read_form ∷ write_form ∷ send_form ∷ fill_form ∷ tick_form ∷ []

-- ---- a line

-- the parts in order, the first of which has number i, behind those whose numbers are in ns; then what the numbers come to
unfoldable pub parts_from : Form → List FormPart → ℕ → List ℕ → List ℕ → ℕ → Parsed
parts_from f [] i ns s at = f.comes (λ j. get_or ns j 0) s at
parts_from f (p ∷ ps) i ns s at = then_field p.lacks (field_next p.word p.most s at) (λ n next. parts_from f ps (suc i) (set ns i n) s next)

-- no form has more than six numbers
abbrev pub form_from : Form → List ℕ → ℕ → Parsed
form_from f s at = parts_from f f.parts 0 (replicate 6 0) s at

-- by the word at `at`, which ends at `end`
unfoldable pub by_word : List Form → List ℕ → ℕ → ℕ → Parsed
by_word [] s at end = Err expected.Command
by_word (f ∷ fs) s at end = pick (word_is s at f.word) (form_from f s end) (by_word fs s at end)

-- a command, or what the line lacks
unfoldable pub command_in : List ℕ → Parsed
command_in s = by_word forms s (skip_spaces s 0) (word_end s (skip_spaces s 0))

-- a line with a command, or without one
abbrev pub with_command : Parsed → Result (Option Command) Expected
with_command (Ok c) = Ok (Some c)
with_command (Err e) = Err e

unfoldable pub parse_line : List ℕ → Result (Option Command) Expected
parse_line s = pick (ends_at s 0) (Ok None) (with_command (command_in s))
