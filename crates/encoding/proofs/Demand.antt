-- Demand 3 of the calls on lent slices: where their rounds settle, and what is seen of them; any settings in range, any sound slices, any
-- well-formed access.
use Rattle.words.proofs.General.{◌≡◌, true}
use Rattle.model.proofs.Terms.{in_range, well_formed, Lent, lengths_fit, tables_of, sound_lent, Small, calls, Settles, Demand3, seen_calls}
use Rattle.model.specs.declared.Settings.{Settings}
use Rattle.model.specs.declared.Access.{Access}
use Rattle.model.proofs.Soundness.{send_keeps_sound, fill_keeps_sound}
use Rattle.model.proofs.Bound.{rounds_settled}
use Rattle.model.proofs.SeenRounds.{calls_clear, demand_seen}
use Rattle.encoding.proofs.Bridge.{sound-encoded}
use Rattle.encoding.proofs.LentRounds.{Keeps, settled_lent}

-- the steps of a round keep sound tables sound
pub steps_keep : (S : Settings) → Keeps S
steps_keep S = record { sends = send_keeps_sound S; fills = λ a. fill_keeps_sound S a }

-- words are 32-bit numbers, as their type says (`Small`)
pub rounds_settled_lent : (S : Settings) (x : Access) (L : Lent) → in_range S ≡ true → lengths_fit S L ≡ true → Small L → sound_lent S L ≡ true → well_formed x ≡ true
    → Settles (calls S x) L
rounds_settled_lent S x L range fits small soundly formed =
    let is = sound-encoded S L range fits small soundly in
    settled_lent S x range (steps_keep S) L (tables_of S L) is (rounds_settled S x (tables_of S L) range is.soundly formed)

-- words are 32-bit numbers, as their type says (`Small`)
pub demand_3_seen_lent : (S : Settings) (x : Access) (L : Lent) → in_range S ≡ true → lengths_fit S L ≡ true → Small L → sound_lent S L ≡ true → well_formed x ≡ true
    → Demand3 (seen_calls S x) L
demand_3_seen_lent S x L range fits small soundly formed =
    demand_seen (calls S x) (calls_clear S x).offers L (rounds_settled_lent S x L range fits small soundly formed)
