-- Behind the test of the length the event is read by its kind, a number at a time.
use Rattle.words.proofs.General.{arith, ℕ, List, length, ◌≡◌, refl, ◌∙◌, sym, eq-eqb, ne_eqb}
use Rattle.model.specs.RecordsOf as records
use Rattle.model.proofs.Terms.{length_of, event_body, event_of}
use Rattle.records.proofs.reader.event_of.Goals as goal

-- behind the test of its length the body is read by its kind
sized : (k : ℕ) (b : List ℕ) {n : ℕ} → length b ≡ n → n ≡ length_of k → (j : ℕ) → k ≡ j → event_of k b ≡ event_body j b
unfolding records.event_of
sized k b e f j h = rw (eq-eqb _ _ (e ∙ f), h)

pub returns-then-b-length_of : goal.returns-then-b-length_of
unfolding records.event_of
returns-then-b-length_of c = rw (ne_eqb _ _ (λ e. c.if-b-length_of.true (e ∙ sym c.length_of.ensures)))

pub returns-in-16 : goal.returns-in-16
unfolding records.event_of
returns-in-16 c =
    rw (c.answer_event.ensures, c.read.ensures, c.read-in-16.ensures) (sym (sized _ _ c.if-b-length_of.false c.length_of.ensures 0x10 c.in-16.is))

pub returns-in-17 : goal.returns-in-17
unfolding records.event_of
returns-in-17 c = rw (c.refusal_event.ensures, c.read-in-17.ensures) (sym (sized _ _ c.if-b-length_of.false c.length_of.ensures 0x11 c.in-17.is))

pub returns-in-18 : goal.returns-in-18
unfolding records.event_of
returns-in-18 c = rw c.read-in-18.ensures (sym (sized _ _ c.if-b-length_of.false c.length_of.ensures 0x12 c.in-18.is))

pub returns-in-19 : goal.returns-in-19
unfolding records.event_of
returns-in-19 c =
    rw (c.read-in-19.ensures, c.read-in-19-2.ensures, c.read-in-19-3.ensures, c.read-in-19-4.ensures, c.read-in-19-5.ensures) (sym (sized _ _ c.if-b-length_of.false c.length_of.ensures 0x13 c.in-19.is))

pub returns-in-20 : goal.returns-in-20
unfolding records.event_of
returns-in-20 c = rw c.read-in-20.ensures (sym (sized _ _ c.if-b-length_of.false c.length_of.ensures 0x14 c.in-20.is))

pub returns-in-21 : goal.returns-in-21
unfolding records.event_of
returns-in-21 c = rw c.read-in-21.ensures (sym (sized _ _ c.if-b-length_of.false c.length_of.ensures 0x15 c.in-21.is))

pub returns-in-22 : goal.returns-in-22
unfolding records.event_of
returns-in-22 c =
    rw (c.read-in-22.ensures, c.read-in-22-2.ensures, c.read-in-22-3.ensures, c.read-in-22-4.ensures, c.read-in-22-5.ensures) (sym (sized _ _ c.if-b-length_of.false c.length_of.ensures 0x16 c.in-22.is))

pub returns-in-23 : goal.returns-in-23
unfolding records.event_of
returns-in-23 c = rw c.read-in-23.ensures (sym (sized _ _ c.if-b-length_of.false c.length_of.ensures 0x17 c.in-23.is))

pub returns-in-24 : goal.returns-in-24
unfolding records.event_of
returns-in-24 c = sym (sized _ _ c.if-b-length_of.false c.length_of.ensures 0x18 c.in-24.is)

pub returns-in_default : goal.returns-in_default
unfolding records.event_of
returns-in_default c =
    let k = c.args.kind in
    rw (sized _ _ c.if-b-length_of.false c.length_of.ensures _ refl, ne_eqb k 0x10 (omega arith), ne_eqb k 0x11 (omega arith), ne_eqb k 0x12 (omega arith), ne_eqb k 0x13 (omega arith), ne_eqb k 0x14 (omega arith), ne_eqb k 0x15 (omega arith), ne_eqb k 0x16 (omega arith), ne_eqb k 0x17 (omega arith), ne_eqb k 0x18 (omega arith))
