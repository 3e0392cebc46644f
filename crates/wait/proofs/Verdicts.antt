-- What the rounds that are shown end in is what the call `wait` says.
use Rattle.std.specs.Prelude.{Ok, Err}
use Rattle.words.proofs.General.{ℕ, ◌+◌, ◌≤◌, ◌<◌, ◌≡◌, sym, ap, ◌∙◌, true, false, List, length}
use Rattle.model.proofs.Terms.{well_formed, Tables, Lent, wait_room, steps, Run, outcome_rounds, SoundSlices}
use Rattle.model.specs.declared.Settings.{Settings}
use Rattle.model.specs.declared.Access.{Access}
use Rattle.model.specs.declared.Refusal.TheVariants.{BadAccess}
use Rattle.rounds.specs.declared.NotAccepted.TheVariants as wait
use Rattle.turns.specs.declared.Round.{Round}
use Rattle.rounds.specs.Waiting.{Wait, settled, wait_call}
use Rattle.turns.specs.Parts.{is_refusal, Offers, Enough}
use Rattle.rounds.proofs.Settling.{RoundsStand, goes-accepted, all-run, last-held}
use Rattle.rounds.proofs.Ends.{wait_formed, wait_malformed}

-- refused before the first round
pub ends_malformed : {S : Settings} (x : Access) {L : Lent} → SoundSlices S L → well_formed x ≡ false → Err (wait.Refused BadAccess) ≡ (wait_call S x L).waiting
ends_malformed {S} x {L} h formed = sym (ap (λ (w : Wait Lent). w.waiting) (wait_malformed S x L h.tables h.are formed))

module _ {S : Settings} {x : Access} {most : ℕ} {L₀ : Lent} {e₀ : List ℕ} {round out : ℕ} {L : Lent} {e : List ℕ}
    (g : RoundsStand S x most L₀ e₀ round out L e) (held : SoundSlices S L₀) (formed : well_formed x ≡ true) (enough : Enough S L₀ most) where
  abbrev rounds_run : Run Tables
  rounds_run = outcome_rounds (steps S x) most held.tables

  call : (wait_call S x L₀).waiting ≡ (settled rounds_run).waiting
  call = ap (λ (w : Wait Lent). w.waiting) (wait_formed S x L₀ held.tables held.are formed enough)

  pub ends_accepted : round < most → {r : Round} {f : List ℕ} {M : Lent} → Offers S x L e out r f M → is_refusal r.reply.first ≡ false → wait_room ≤ length e₀
      → Ok record { round = round + 1; answer = r.reply.first } ≡ (wait_call S x L₀).waiting
  ends_accepted more made q room = ((goes-accepted g more made q enough.few room).on held.tables held.are).waiting ∙ sym call

  pub ends_held : most ≤ round → Err wait.Held ≡ (wait_call S x L₀).waiting
  ends_held h = sym (call ∙ rw (all-run g h formed enough held.tables held.are, last-held g h formed enough held.tables held.are))
