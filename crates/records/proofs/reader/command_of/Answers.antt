-- Behind the test of the length the command is read by its kind, a number at a time.
use Rattle.words.proofs.General.{arith, ℕ, ◌≡◌, refl, ◌∙◌, sym, Bool, List, length, ne_eqb}
use Rattle.model.specs.RecordsOf as records
use Rattle.model.proofs.Terms.{length_of, is_settings, command_in, command_of}
use Rattle.records.proofs.Decoding.{command_sized}
use Rattle.records.proofs.reader.command_of.Goals as goal

-- behind the test of its length the body is read by its kind
sized : (k : ℕ) (b : List ℕ) {n : ℕ} → length b ≡ n → n ≡ length_of k → (j : ℕ) → k ≡ j → command_of k b ≡ command_in j b
sized k b e f j h = command_sized k b j h (e ∙ f)

-- the answer of the test of the settings kinds
asked : (k : ℕ) {r b : Bool} → r ≡ is_settings k → r ≡ b → is_settings k ≡ b
asked k e q = sym e ∙ q

pub returns-then-b-length_of : goal.returns-then-b-length_of
unfolding records.command_of
returns-then-b-length_of c = rw (ne_eqb _ _ (λ e. c.if-b-length_of.true (e ∙ sym c.length_of.ensures)))

pub returns-then-is_settings : goal.returns-then-is_settings
unfolding records.command_of
returns-then-is_settings c = rw (sized _ _ c.if-b-length_of.false c.length_of.ensures _ refl, asked _ c.is_settings.ensures c.if-is_settings.true, c.given_in.ensures)

pub returns-in-1 : goal.returns-in-1
unfolding records.command_of
returns-in-1 c = rw (c.read.ensures, c.read-in-1.ensures) (sym (sized _ _ c.if-b-length_of.false c.length_of.ensures 1 c.in-1.is))

pub returns-in-2 : goal.returns-in-2
unfolding records.command_of
returns-in-2 c =
    rw (c.read-in-2.ensures, c.read-in-2-2.ensures) (sym (sized _ _ c.if-b-length_of.false c.length_of.ensures 2 c.in-2.is))

pub returns-in-3 : goal.returns-in-3
unfolding records.command_of
returns-in-3 c = sym (sized _ _ c.if-b-length_of.false c.length_of.ensures 3 c.in-3.is)

pub returns-in-4 : goal.returns-in-4
unfolding records.command_of
returns-in-4 c = rw c.read-in-4.ensures (sym (sized _ _ c.if-b-length_of.false c.length_of.ensures 4 c.in-4.is))

pub returns-in-5 : goal.returns-in-5
unfolding records.command_of
returns-in-5 c = rw c.read-in-5.ensures (sym (sized _ _ c.if-b-length_of.false c.length_of.ensures 5 c.in-5.is))

pub returns-in_default : goal.returns-in_default
unfolding records.command_of
returns-in_default c =
    let k = c.args.kind in
    rw (sized _ _ c.if-b-length_of.false c.length_of.ensures _ refl, asked _ c.is_settings.ensures c.if-is_settings.false, ne_eqb k 1 (omega arith), ne_eqb k 2 (omega arith), ne_eqb k 3 (omega arith), ne_eqb k 4 (omega arith), ne_eqb k 5 (omega arith))
