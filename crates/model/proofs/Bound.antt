-- Demand 3 on the steps: the access is accepted in round q + m at the latest, or refused as 6 then and ever after; and the struck
-- rounds come to the same.
use Rattle.words.proofs.General.{ℕ, zero, suc, ◌+◌, ◌-◌, ◌≤◌, zero-add, suc-add, arith, ◌≡◌, refl, sym, ap, ◌∙◌, ◌⊎◌, inl, inr, ⊎_elim, true, false, not, ◌&&◌, false≢true, List}
use Rattle.words.proofs.General.{[], ◌∷◌, length, get_or, leb, ltb, eq-eqb, lt-leb, le-ltb, all, any, count, and_1, and_i, and_no, flag, not_yes, no-yes, clash, In, all_in, in-any}
use Rattle.words.proofs.General.{any-in, in_index, keep-lt, none_of}
use Rattle.model.proofs.Terms.{in_range, address_of, is_read, well_formed, Line, Entry, Tables, Outcome, refused, done, accepted, is_invalid, is_reserved, wholly_invalid}
use Rattle.model.proofs.Terms.{has_reserved, empty, fresh, reading_of, sound, Place, no, at, ways_of, rule_of, met_in, is_merge, is_miss, places_needed, entry_full, accept, proceed}
use Rattle.model.proofs.Terms.{access, after_send, send, others, after_fill, sent_for, fill, Calls, steps, Turn, still, took, Run, outcome_go_on, outcome_send, outcome_fill}
use Rattle.model.proofs.Terms.{outcome_drain, outcome_rounds, outcome_held, outcome_waits, Settles}
use Rattle.model.specs.declared.Settings.{Settings}
use Rattle.model.specs.declared.Queued.{Queued}
use Rattle.model.specs.declared.Sector.{Sector}
use Rattle.model.specs.declared.Access.{Access}
use Rattle.model.specs.declared.Refusal.TheVariants.{SetHeld}
use Rattle.model.proofs.SoundFacts.{Sound, parts, four_at, reserved_at, unsent_once}
use Rattle.model.proofs.Ways.{probe-place, way_in}
use Rattle.model.proofs.ProbeFindsSpot.{back_one, reserved_used}
use Rattle.model.proofs.Victims.{places_at_most_two}
use Rattle.model.proofs.SendFillKeepSound.{marked-length, sent_sound, filled-sound}
use Rattle.model.proofs.Fits.{ranged}

-- ---- tables at rest: nothing queued, no entry

-- a place, or 6
abbrev FreePlace : Place → Type 0
FreePlace (no n) = n ≡ SetHeld
FreePlace (at p) = length p.backs ≤ 1

module _ (S : Settings) (t : Tables) (ok : Sound S t) (no-misses : t.misses ≡ []) where
  line_free : (l : Line) → In l t.lines → has_reserved l ≡ false
  line_free l m = no-yes (λ w.
      let (s, n, q) = any-in (λ (v : Sector). is_reserved v.status) l.sectors w in
      ⊎_elim (λ u. clash (all_in (λ (v : Sector). is_invalid v.status) l.sectors u n) (reserved_used s.status q))
      (λ u. let (k, h, e) = in_index l.sectors empty s n in
      clash q (ap (λ (v : Sector). is_reserved v.status) (sym e) ∙ reserved_at S t ok l m u k (omega (arith, four_at S t ok l m)) ∙ rw no-misses))
      (flag (wholly_invalid l)))

  set_free : (a : ℕ) → any has_reserved (ways_of S t.lines a) ≡ false
  set_free a = no-yes (λ w. let (l, m, q) = any-in has_reserved (ways_of S t.lines a) w in clash q (line_free l (way_in S t.lines a l m)))

  module _ (range : in_range S ≡ true) (x : Access) (no-queue : t.queue ≡ []) where
    proceed-settles : (p : Place) → FreePlace p → (accepted (proceed S x t p) ≡ true) ⊎ (proceed S x t p ≡ refused SetHeld)
    unfolding proceed accept
    proceed-settles (no n) h = inr (ap refused h)
    proceed-settles (at p) h =
        let room : ltb S.queue (length t.queue + places_needed x p) ≡ false =
        le-ltb S.queue (length t.queue + places_needed x p) (omega (arith, ap length no-queue, places_at_most_two x p h, (ranged S range).place)) in
        let merge : any (entry_full S (address_of x)) t.misses ≡ false = rw no-misses in
        let entry : leb S.misses (length t.misses) ≡ false =
        lt-leb S.misses (length t.misses) (omega (arith, ap length no-misses, (ranged S range).entry)) in
        inl (rw (
          room,
          and_no (is_read x && is_merge p.answer) (any (entry_full S (address_of x)) t.misses) merge,
          and_no (is_read x && is_miss p.answer) (leb S.misses (length t.misses)) entry,
        ))

    access-settles : well_formed x ≡ true → (accepted (access S x t) ≡ true) ⊎ (access S x t ≡ refused SetHeld)
    unfolding access
    access-settles f =
        rw f (proceed-settles (met_in S x t) (probe-place (rule_of S t (address_of x)) S t.dirty_count (ways_of S t.lines (address_of x)) x FreePlace
        (λ w e. omega arith) (λ e w v. back_one (get_or (ways_of S t.lines (address_of x)) w fresh)) (λ v. rw (set_free (address_of x)))))

-- ---- a round's send and fill

abbrev size : Tables → ℕ
size t = length t.queue + length t.misses

-- what a call on sound tables leaves: sound tables, and no more in them than n
record LeavesAtMost (S : Settings) (n : ℕ) (u : Tables) : Type 0 where
  ok : Sound S u
  less : size u ≤ n

module _ (S : Settings) (x : Access) where
  abbrev C : Calls Tables
  C = steps S x

  send_takes : (t : Tables) (e : Queued) (q : List Queued) → t.queue ≡ e ∷ q → (outcome_send C t).left ≡ after_send e q t
  unfolding outcome_send send
  send_takes t e q h = rw h

  fill_takes : (t : Tables) (d : Entry) → In d t.misses → d.sent ≡ true → (took t (fill d.address t)).left ≡ after_fill d.address t
  unfolding fill
  fill_takes t d m h =
      let a : any (sent_for d.address) t.misses ≡ true = in-any (sent_for d.address) t.misses m (and_i (eq-eqb d.address d.address refl) h) in
      rw a

  -- the first sent one of some of the table's entries is filled, or none of them is sent
  abbrev Tried : Tables → List Entry → Tables → Type 0
  Tried t es u = LeavesAtMost S (size t - 1) u ⊎ ((u ≡ t) × (all (λ e. not e.sent) es ≡ true))

  fill_tries : (t : Tables) → Sound S t → (es : List Entry) → ((d : Entry) → In d es → In d t.misses)
      → Tried t es (outcome_fill C es t).left
  unfolding outcome_fill
  fill_tries t ok [] f = inr (refl, refl)
  fill_tries t ok (d ∷ es) f =
      ⊎_elim (λ h. rw h (inl (rw (fill_takes t d (f d (inl refl)) h) (record {
        ok = filled-sound S t ok d (f d (inl refl)) h;
        less = omega (arith, keep-lt (others d.address) t.misses (f d (inl refl)) (rw (eq-eqb d.address d.address refl)));
      }))))
      (λ h. rw h (fill_tries t ok es (λ e m. f e (inr m)))) (flag d.sent)

  -- with nothing queued no entry is unsent
  unsent-none : (t : Tables) → Sound S t → t.queue ≡ [] → (es : List Entry) → t.misses ≡ es → all (λ e. not e.sent) es ≡ true → es ≡ []
  unsent-none t ok e [] q h = refl
  unsent-none t ok e (d ∷ es) q h =
      let c : count (reading_of d.address) t.queue ≡ 1 =
      unsent_once S t ok d (rw q (inl refl)) (not_yes (and_1 (not d.sent) (all (λ v. not v.sent) es) h)) in
      let z : ◌≡◌ {A = ℕ} 0 1 = rw e at c in
      absurd (omega arith)

  -- with nothing queued and no entry there is nothing to do
  send-idle : (t : Tables) → t.queue ≡ [] → outcome_send C t ≡ still t
  unfolding outcome_send
  send-idle t e = rw e

  drain_idle : (t : Tables) → t.queue ≡ [] → t.misses ≡ [] → (outcome_drain C t).left ≡ t
  unfolding outcome_drain outcome_fill
  drain_idle t e m = rw (send-idle t e, m)

  drain_less : (t : Tables) → Sound S t → LeavesAtMost S (size t - 1) (outcome_drain C t).left
  unfolding outcome_drain
  drain_less t ok = go t.queue refl
    where
      go : (q : List Queued) → t.queue ≡ q → LeavesAtMost S (size t - 1) (outcome_fill C (outcome_send C t).left.misses (outcome_send C t).left).left
      go [] e =
          rw (send-idle t e) (⊎_elim (λ l. l)
          (λ (s, u). rw s (record { ok = ok; less = omega (arith, ap length e, ap length (unsent-none t ok e t.misses refl u)) }))
          (fill_tries t ok t.misses (λ d m. m)))
      go (y ∷ q) e =
          let v : Tables = after_send y q t in
          let k : LeavesAtMost S (size t - 1) v = record { ok = sent_sound S t y q e ok; less = omega (arith, ap length e, marked-length y.kind y.address t.misses) } in
          rw (send_takes t y q e) (⊎_elim (λ l. record { ok = l.ok; less = omega arith }) (λ (s, u). rw s k) (fill_tries v k.ok v.misses (λ d m. m)))

  -- ---- the rounds

  module _ (range : in_range S ≡ true) (formed : well_formed x ≡ true) where
    rounds-more : (n : ℕ) (t : Tables) → outcome_rounds C (suc n) t ≡ outcome_go_on (outcome_drain C t) (outcome_rounds C n) (access S x (outcome_drain C t).left)
    unfolding outcome_rounds
    rounds-more n t = refl

    -- what stands for an offer that wasn't made doesn't matter: it is no refusal
    held-whatever : (t u : Tables) (os : List (Outcome Tables)) (n : ℕ) → get_or os n (done [] u) ≡ refused SetHeld
        → get_or os n (done [] t) ≡ refused SetHeld
    held-whatever t u [] n e = let z : ◌≡◌ {A = ℕ} 0 1 = cc in absurd (omega arith)
    held-whatever t u (o ∷ os) zero e = e
    held-whatever t u (o ∷ os) (suc n) e = held-whatever t u os n e

    -- refused as 6 once at rest: refused as 6 in every round
    held-at-rest : (t u : Tables) → (outcome_drain C t).left ≡ u → u.queue ≡ [] → u.misses ≡ [] → access S x u ≡ refused SetHeld → (j : ℕ)
        → outcome_held C j t
    held-at-rest t u d e m o zero = rw (rounds-more 0 t, d, o)
    held-at-rest t u d e m o (suc j) =
        rw (rounds-more (suc j) t, d, o) (held-whatever t u (outcome_rounds C (suc j) u).offers j (held-at-rest u u (drain_idle u e m) e m o j))

    offer-taken : (a : Turn Tables) (rest : Tables → Run Tables) (o : Outcome Tables) → accepted o ≡ true
        → any accepted (outcome_go_on a rest o).offers ≡ true
    offer-taken a rest (refused n) h = absurd (false≢true h)
    offer-taken a rest (done es u) h = refl

    -- n + 1 rounds are enough: one of them accepts, or round n + 1 and every later one refuses as 6
    abbrev SettledBy : ℕ → Tables → Type 0
    SettledBy n t = (any accepted (outcome_rounds C (suc n) t).offers ≡ true) ⊎ ((j : ℕ) → outcome_held C (n + j) t)

    rounds-settle : (n : ℕ) (t : Tables) → Sound S t → size t ≤ suc n → SettledBy n t
    rounds-settle zero t ok h =
        let u : Tables = (outcome_drain C t).left in
        let l : LeavesAtMost S (size t - 1) u = drain_less t ok in
        let e : u.queue ≡ [] = none_of u.queue (omega arith) in
        let m : u.misses ≡ [] = none_of u.misses (omega arith) in
        ⊎_elim (λ a. inl (rw (rounds-more 0 t) (offer-taken (outcome_drain C t) (outcome_rounds C 0) (access S x u) a)))
        (λ a. inr (λ j. rw (zero-add j) (held-at-rest t u refl e m a j))) (access-settles S u l.ok m range x e formed)
    rounds-settle (suc n) t ok h =
        let l : LeavesAtMost S (size t - 1) (outcome_drain C t).left = drain_less t ok in
        go (access S x (outcome_drain C t).left) refl (rounds-settle n (outcome_drain C t).left l.ok (omega arith))
      where
        go : (o : Outcome Tables) → access S x (outcome_drain C t).left ≡ o → SettledBy n (outcome_drain C t).left → SettledBy (suc n) t
        go (done es u) e k = inl (rw (rounds-more (suc n) t, e))
        go (refused c) e (inl a) = inl (rw (rounds-more (suc n) t, e) a)
        go (refused c) e (inr f) =
            inr (λ j. rw (suc-add n j, rounds-more (suc (n + j)) t, e)
            (held-whatever t (outcome_drain C t).left (outcome_rounds C (suc (n + j)) (outcome_drain C t).left).offers (n + j) (f j)))

-- any settings in range, any sound tables, any well-formed access
pub rounds_settled : (S : Settings) (x : Access) (t : Tables) → in_range S ≡ true → sound S t ≡ true → well_formed x ≡ true → Settles (steps S x) t
rounds_settled S x t range ok formed = record {
  settles = rounds-settle S x range formed (outcome_waits (steps S x) t) t (parts S t ok) (omega arith);
}
