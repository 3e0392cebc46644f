-- The entry that the code shows is the first that passes; the slices hold what the parts of the code ask for.
use Rattle.words.proofs.General.{ℕ, zero, suc, ◌+◌, ◌/◌, ◌%◌, ◌≤◌, ◌<◌, not-suc-le-zero, le_of_suc-le-suc, arith, ◌≡◌, refl, sym, ◌∙◌, ⊎_elim, Bool, true, false, List, [], ◌∷◌}
use Rattle.words.proofs.General.{length, get_or, eqb, eq-eqb, ne_eqb, lt-ltb, le-ltb, lt_or_ge}
use Rattle.model.proofs.Terms.{set_index, Entry, Tables, entry_for, lent, Sized, Encodes, SoundSlices}
use Rattle.model.specs.declared.Settings.{Settings}
use Rattle.model.proofs.SoundFacts.{parts, few_misses}
use Rattle.layout.specs.declared.Layout.{Layout}
use Rattle.layout.specs.Layout.{LaysOut}
use Rattle.layout.specs.Places.{First}
use Rattle.encoding.proofs.Bridge.{is_fit}
use Rattle.layout.proofs.ByBlocks.{is_stands}
use Rattle.tables.proofs.Misses.{no_entry, address-at, sent-at, count_at, misses_counted}
use Rattle.reasons.specs.declared.Reason.{Reason}
use Rattle.reasons.specs.declared.Reason.TheVariants as reason
use Rattle.reasons.specs.Reasons.{entry_reason, of_set, any_entry}
use Rattle.reasons.specs.Parts.{FirstInSet, entry_shown}

-- ---- what the parts of the code ask for: room for the regions, and for the entries in use

pub slices_fit : {S : Settings} {longs words marks : List ℕ} → SoundSlices S (lent longs words marks) → Sized S longs words marks
slices_fit s = is_fit _ _ _ s.are

pub entries_fit : {S : Settings} {longs words marks : List ℕ} {at : Layout} → LaysOut S at → SoundSlices S (lent longs words marks)
    → {n : ℕ} → First marks at.counts S.misses 0 n → (at.misses + n ≤ length longs) × (at.sent + n ≤ length marks) × (at.counts + n ≤ length marks)
entries_fit p s u = let z = slices_fit s in let m = u.most in (omega arith, omega arith, omega arith)

-- ---- the first that passes

abbrev reason_told : Entry → Reason
reason_told e = reason.Entry e.address e.sent (length e.tickets)

first-told : (q : Entry → Bool) (es : List Entry) (r : ℕ) → r < length es → ((k : ℕ) → k < r → q (get_or es k no_entry) ≡ false) → q (get_or es r no_entry) ≡ true
    → entry_reason q es ≡ reason_told (get_or es r no_entry)
first-told q [] r h f e = absurd (not-suc-le-zero h)
first-told q (x ∷ es) zero h f e = rw e
first-told q (x ∷ es) (suc r) h f e = rw (f 0 (omega arith)) (first-told q es r (le_of_suc-le-suc h) (λ k j. f (suc k) (omega arith)) e)

none_told : (q : Entry → Bool) (es : List Entry) → ((k : ℕ) → k < length es → q (get_or es k no_entry) ≡ false) → entry_reason q es ≡ reason.Nothing
none_told q [] f = refl
none_told q (x ∷ es) f = rw (f 0 (omega arith)) (none_told q es (λ k j. f (suc k) (omega arith)))

-- n entries are in use
module _ (S : Settings) {longs words marks : List ℕ} (t : Tables) (i : Encodes S (lent longs words marks) t) {at : Layout} (p : LaysOut S at)
    {n : ℕ} (u : First marks at.counts S.misses 0 n) where
  pub in_use : n ≡ length t.misses
  in_use = misses_counted S t i p u

  few : length t.misses ≤ S.misses
  few = few_misses S t (parts S t i.soundly)

  address_is : (e : ℕ) → e < length t.misses → get_or longs (at.misses + e) 0 ≡ (get_or t.misses e no_entry).address
  address_is = address-at S t (is_stands i) p few

  sent_is : (e : ℕ) → e < length t.misses → eqb (get_or marks (at.sent + e) 0) 1 ≡ (get_or t.misses e no_entry).sent
  sent_is = sent-at S t (is_stands i) p few

  module _ (q : Entry → Bool) {e : ℕ} (before : (k : ℕ) → k < length t.misses → k < e → q (get_or t.misses k no_entry) ≡ false)
      (there : e < length t.misses → q (get_or t.misses e no_entry) ≡ true) where
    pub first-shown : {r : Reason} → r ≡ entry_shown at longs marks e n → r ≡ entry_reason q t.misses
    first-shown is =
        let all = in_use in
        is
        ∙ ⊎_elim
        (λ (b : e < n).
        let h : e < length t.misses = omega arith in
        rw (lt-ltb e n b, address_is e h, sent_is e h, count_at S t (is_stands i) p few e h) (sym (first-told q t.misses e h (λ k j. before k (omega arith) j) (there h))))
        (λ (b : n ≤ e). rw (le-ltb e n b) (sym (none_told q t.misses (λ k j. before k j (omega arith)))))
        (lt_or_ge e n)

  -- ---- which entry

  pub set_shown : {set e : ℕ} → FirstInSet longs at.misses n S.sets set e → {a b : ℕ} → a ≡ b → set ≡ set_index S a → {r : Reason} → r ≡ entry_shown at longs marks e n
      → r ≡ entry_reason (of_set S.sets (set_index S b)) t.misses
  set_shown {set} f same index is =
      rw (← same, ← index)
      (first-shown (of_set S.sets set)
      (λ k b j. ne_eqb ((get_or t.misses k no_entry).address / 128 % S.sets) set (λ q. f.before k j (rw (address_is k b) q)))
      (λ b. let all = in_use in eq-eqb _ set (rw (address_is _ b) at (f.there (omega arith)))) is)

  pub address_shown : {a b e : ℕ} → a ≡ b → First longs at.misses n a e → {r : Reason} → r ≡ entry_shown at longs marks e n → r ≡ entry_reason (entry_for b) t.misses
  address_shown {a} same f is =
      rw (← same)
      (first-shown (entry_for a)
      (λ k b j. ne_eqb (get_or t.misses k no_entry).address a (λ q. f.before k j (rw (address_is k b) q)))
      (λ b. let all = in_use in eq-eqb _ a (rw (address_is _ b) at (f.there (omega arith)))) is)

  pub oldest_shown : {r : Reason} → r ≡ entry_shown at longs marks 0 n → r ≡ entry_reason any_entry t.misses
  oldest_shown is = first-shown any_entry (λ k b j. absurd (omega arith)) (λ b. refl) is
