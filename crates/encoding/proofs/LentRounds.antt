-- The rounds of demand 3 on lent slices: those on the tables, with every table encoded. So what holds of the tables' rounds holds of
-- the slices'.
use Rattle.words.proofs.General.{ℕ, zero, suc, ◌+◌, ◌≡◌, refl, ap, ◌∙◌, inl, inr, ⊎_elim, true, List, [], ◌∷◌, map, List·getD-map, any, flag}
use Rattle.model.specs.declared.Settings.{Settings}
use Rattle.model.specs.declared.Access.{Access}
use Rattle.model.proofs.Terms.{in_range, Entry, Tables, Outcome, refused, done, after, accepted, Lent, encode, sound, access, send, fill, call, encoded, steps, calls, Turn, took}
use Rattle.model.proofs.Terms.{Run, outcome_go_on, is_empty, outcome_send, outcome_fill, outcome_drain, outcome_rounds, outcome_held, outcome_waits, Settles, Encodes}
use Rattle.encoding.proofs.Bridge.{tables_of_encode, call-on}
use Rattle.model.proofs.SeenRounds.{took_left}

-- what a round does before its offer keeps sound tables sound; the offer, accepted, is the last call
pub record Keeps (S : Settings) : Type 0 where
  pub sends : (t : Tables) → sound S t ≡ true → sound S (after t (send t)) ≡ true
  pub fills : (a : ℕ) (t : Tables) → sound S t ≡ true → sound S (after t (fill a t)) ≡ true

-- ---- the same turns and rounds with every table encoded

abbrev pub turn_of : Settings → Turn Tables → Turn Lent
turn_of S a = record { events = a.events; left = encode S a.left }

abbrev pub run_of : Settings → Run Tables → Run Lent
run_of S r = record { turn = turn_of S r.turn; offers = map (encoded S) r.offers }

module _ (S : Settings) where
  took_encoded : (t : Tables) (o : Outcome Tables) → took (encode S t) (encoded S o) ≡ turn_of S (took t o)
  took_encoded t (refused n) = refl
  took_encoded t (done es u) = refl

  accepted_encoded : (os : List (Outcome Tables)) → any accepted (map (encoded S) os) ≡ any accepted os
  accepted_encoded [] = refl
  accepted_encoded (refused n ∷ os) = accepted_encoded os
  accepted_encoded (done es u ∷ os) = refl

  go_encoded : (a : Turn Tables) (rest : Tables → Run Tables) (more : Lent → Run Lent) (o : Outcome Tables)
      → more (encode S a.left) ≡ run_of S (rest a.left) → outcome_go_on (turn_of S a) more (encoded S o) ≡ run_of S (outcome_go_on a rest o)
  go_encoded a rest more (refused n) e = rw e
  go_encoded a rest more (done es u) e = refl

-- ---- the rounds

module _ (S : Settings) (x : Access) (range : in_range S ≡ true) (keeps : Keeps S) where
  -- a turn of the steps that left sound tables, and the same turn of the calls
  record Alike (b : Turn Lent) (a : Turn Tables) : Type 0 where
    soundly : sound S a.left ≡ true
    same : b ≡ turn_of S a

  took_alike : (step : Tables → Outcome Tables) (t : Tables) → sound S t ≡ true → sound S (after t (step t)) ≡ true
      → Alike (took (encode S t) (call S step (encode S t))) (took t (step t))
  took_alike step t e k = record { soundly = rw (took_left t (step t)) k; same = rw (call-on S step t range e) (took_encoded S t (step t)) }

  send_alike : (t : Tables) → sound S t ≡ true → Alike (outcome_send (calls S x) (encode S t)) (outcome_send (steps S x) t)
  unfolding outcome_send
  send_alike t e =
      rw (tables_of_encode S t e)
      (⊎_elim (λ q. rw q (record { soundly = e; same = refl })) (λ q. rw q (took_alike send t e (keeps.sends t e))) (flag (is_empty t.queue)))

  fill_alike : (es : List Entry) (t : Tables) → sound S t ≡ true → Alike (outcome_fill (calls S x) es (encode S t)) (outcome_fill (steps S x) es t)
  unfolding outcome_fill
  fill_alike [] t e = record { soundly = e; same = refl }
  fill_alike (y ∷ es) t e =
      ⊎_elim (λ q. rw q (took_alike (fill y.address) t e (keeps.fills y.address t e))) (λ q. rw q (fill_alike es t e)) (flag y.sent)

  drain_alike : (t : Tables) → sound S t ≡ true → Alike (outcome_drain (calls S x) (encode S t)) (outcome_drain (steps S x) t)
  unfolding outcome_drain
  drain_alike t e =
      let s = send_alike t e in
      let f = fill_alike (outcome_send (steps S x) t).left.misses (outcome_send (steps S x) t).left s.soundly in
      record { soundly = f.soundly; same = rw (s.same, tables_of_encode S (outcome_send (steps S x) t).left s.soundly, f.same) }

  pub rounds_encoded : (n : ℕ) (t : Tables) → sound S t ≡ true → outcome_rounds (calls S x) n (encode S t) ≡ run_of S (outcome_rounds (steps S x) n t)
  unfolding outcome_rounds
  rounds_encoded zero t e = refl
  rounds_encoded (suc n) t e =
      let d = drain_alike t e in
      rw (d.same, call-on S (access S x) (outcome_drain (steps S x) t).left range d.soundly)
      (go_encoded S (outcome_drain (steps S x) t) (outcome_rounds (steps S x) n) (outcome_rounds (calls S x) n) (access S x (outcome_drain (steps S x) t).left)
      (rounds_encoded n (outcome_drain (steps S x) t).left d.soundly))

  -- ---- where they settle

  settles_encoded : (n : ℕ) (t : Tables) → sound S t ≡ true → any accepted (outcome_rounds (steps S x) n t).offers ≡ true
      → any accepted (outcome_rounds (calls S x) n (encode S t)).offers ≡ true
  settles_encoded n t e h = rw (rounds_encoded n t e) (accepted_encoded S (outcome_rounds (steps S x) n t).offers ∙ h)

  held_encoded : (n : ℕ) (t : Tables) → sound S t ≡ true → outcome_held (steps S x) n t → outcome_held (calls S x) n (encode S t)
  held_encoded n t e h =
      rw (rounds_encoded (suc n) t e) (List·getD-map (encoded S) (outcome_rounds (steps S x) (suc n) t).offers n (done [] t) ∙ ap (encoded S) h)

  -- of any sound slices
  pub settled_lent : (L : Lent) (t : Tables) → Encodes S L t → Settles (steps S x) t → Settles (calls S x) L
  settled_lent L t is d = rw is.encoded (record {
    settles = rw (tables_of_encode S t is.soundly)
        (⊎_elim
        (λ h. inl (settles_encoded (suc (outcome_waits (steps S x) t)) t is.soundly h))
        (λ h. inr (λ j. held_encoded (outcome_waits (steps S x) t + j) t is.soundly (h j)))
        d.settles);
  })
