-- What sound tables say of their entries by place: one entry an address, its tickets, and where the head of the queue has its entry.
use Rattle.words.proofs.General.{ℕ, zero, suc, ◌≤◌, ◌<◌, not-suc-le-zero, le_of_suc-le-suc, arith, ◌≡◌, ap, subst, ◌∙◌, ◌≢◌, true, false, not, List, [], ◌∷◌, map, length, get_or}
use Rattle.words.proofs.General.{set, eqb, eqb-true, eq-eqb, ne_eqb, any, count, keep, dropped, and_1, any-in, in_index, in_get_or, count_index, map-one, any-one}
use Rattle.model.proofs.Terms.{Entry, Tables, entry_for, is_fetch, idle, no_entry, unsent_for, queued_ok, mark, others, tickets_of, sent_for}
use Rattle.model.specs.declared.Settings.{Settings}
use Rattle.model.proofs.SoundFacts.{Sound, entry_at, queued_at_lem, queued_parts, queued_unsent}
use Rattle.tables.proofs.Ones.{keep_one}
use Rattle.tables.proofs.Misses.{with_sent}

tickets_first : (a : ℕ) (l : List Entry) (i : ℕ) → i < length l → entry_for a (get_or l i no_entry) ≡ true → ((j : ℕ) → j < i → entry_for a (get_or l j no_entry) ≡ false) → tickets_of a l ≡ (get_or l i no_entry).tickets
tickets_first a [] i h e f = absurd (not-suc-le-zero h)
tickets_first a (x ∷ l) zero h e f = rw e
tickets_first a (x ∷ l) (suc i) h e f = rw (f 0 (omega arith)) (tickets_first a l i (le_of_suc-le-suc h) e (λ j k. f (suc j) (omega arith)))

module _ (S : Settings) (t : Tables) (ok : Sound S t) where
  pub entry_place : (a i j : ℕ) → i < length t.misses → j < length t.misses → (get_or t.misses i no_entry).address ≡ a → (get_or t.misses j no_entry).address ≡ a → i ≡ j
  entry_place a i j h k e f =
      let o : eqb (count (entry_for (get_or t.misses i no_entry).address) t.misses) 1 ≡ true = (entry_at S t ok (get_or t.misses i no_entry) (in_get_or t.misses i no_entry h)).once in
      let c : count (entry_for a) t.misses ≡ 1 = eqb-true (count (entry_for a) t.misses) 1 (subst (λ (b : ℕ). eqb (count (entry_for b) t.misses) 1 ≡ true) e o) in
      count_index (entry_for a) no_entry t.misses c i j h k (eq-eqb (get_or t.misses i no_entry).address a e) (eq-eqb (get_or t.misses j no_entry).address a f)

  -- the head of the queue
  module _ (some : 1 ≤ length t.queue) where
    head_ok : queued_ok t.misses (get_or t.queue 0 idle) ≡ true
    head_ok = queued_at_lem S t ok (get_or t.queue 0 idle) (in_get_or t.queue 0 idle some)

    pub head-four : length (get_or t.queue 0 idle).masks ≡ 4
    head-four = (queued_parts t.misses (get_or t.queue 0 idle) head_ok).0

    -- the entry of a read there
    pub head-entry : is_fetch (get_or t.queue 0 idle).kind ≡ true
        → (k : ℕ) × (k < length t.misses) × ((get_or t.misses k no_entry).address ≡ (get_or t.queue 0 idle).address)
    head-entry f =
        let a : ℕ = (get_or t.queue 0 idle).address in
        let (d, m, g) = any-in (unsent_for a) t.misses (queued_unsent t.misses (get_or t.queue 0 idle) f head_ok) in
        let (k, b, z) = in_index t.misses no_entry d m in
        (k, b, ap (λ (v : Entry). v.address) z ∙ eqb-true d.address a (and_1 (entry_for a d) (not d.sent) g))

  -- entry e, whose address is a
  module _ (a e : ℕ) (below : e < length t.misses) (is : (get_or t.misses e no_entry).address ≡ a) where
    yes : entry_for a (get_or t.misses e no_entry) ≡ true
    yes = eq-eqb (get_or t.misses e no_entry).address a is

    no : (j : ℕ) → j < length t.misses → j ≢ e → entry_for a (get_or t.misses j no_entry) ≡ false
    no j k n = ne_eqb (get_or t.misses j no_entry).address a (λ z. n (entry_place a j e k below z is))

    -- is the one that a send marks
    pub marked-one : map (mark a) t.misses ≡ set t.misses e (with_sent (get_or t.misses e no_entry))
    marked-one = map-one (mark a) no_entry t.misses e below (λ j k n. rw (no j k n)) ∙ rw yes

    -- is the one that goes at a fill
    pub kept-others : keep (others a) t.misses ≡ dropped e t.misses
    kept-others = keep_one (others a) no_entry t.misses e below (ap not yes) (λ j k n. ap not (no j k n))

    -- has the tickets that are released then
    pub tickets_are : tickets_of a t.misses ≡ (get_or t.misses e no_entry).tickets
    tickets_are = tickets_first a t.misses e below yes (λ j k. no j (omega arith) (λ q. omega arith))

    -- is sent if an entry for the address is sent
    pub sent_is : any (sent_for a) t.misses ≡ (get_or t.misses e no_entry).sent
    sent_is = any-one (sent_for a) t.misses e no_entry below (λ j k n. rw (no j k n)) ∙ rw yes
