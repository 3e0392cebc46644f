-- Bills of lists of events: one list after another is one list, and the sum at each place of a bill that is not full is what the
-- events owe there.
use Rattle.words.proofs.General.{ℕ, ◌+◌, ◌^◌, ◌<◌, arith, ◌≡◌, refl, ◌∙◌, false, List, [], ◌∷◌, ◌++◌, length, get_or, set, length-set, get_or-replicate, get_or-set_same, get_or-set_other}
use Rattle.words.proofs.General.{eqb, ltb, eqb-true, eqb-false, pick, clash, by_flag, pick_both}
use Rattle.model.specs.declared.Event.{Event}
use Rattle.billing.specs.declared.Bill.{Bill}
use Rattle.billing.specs.Dues.{dues_of, owed_at}
use Rattle.billing.specs.Bills.{empty_bill, raised, bill_kept, billed, added_to, all_added, owed_in}
use Rattle.billing.proofs.Sums.{dues_within}

-- a log billed in two parts
pub all_added_append : (b : Bill) (es fs : List Event) → all_added b (es ++ fs) ≡ all_added (all_added b es) fs
unfolding all_added
all_added_append b [] fs = refl
all_added_append b (e ∷ es) fs = all_added_append (added_to b e) es fs

-- ---- c is b with n more at place p, and neither is full
pub record More (b c : Bill) (p n : ℕ) : Type 0 where
  pub open_before : b.full ≡ false
  pub sums : c.counts ≡ set b.counts p (get_or b.counts p 0 + n)

raised-sum : (b : Bill) (p n : ℕ) → (raised b p n).full ≡ false → More b (raised b p n) p n
unfolding raised
raised-sum b p n =
    by_flag (λ c. c.full ≡ false → More b c p n) b.full _ _ (λ e h. clash e h)
    (λ e. by_flag (λ c. c.full ≡ false → More b c p n) (ltb (get_or b.counts p 0 + n) (2 ^ 64)) _ _ (λ t h. record { open_before = e; sums = refl }) (λ t h. clash refl h))

more_at : (b c : Bill) (p n q : ℕ) → More b c p n → p < length b.counts → get_or c.counts q 0 ≡ get_or b.counts q 0 + pick (eqb q p) n 0
more_at b c p n q m h =
    rw m.sums
    (by_flag (λ x. get_or (set b.counts p (get_or b.counts p 0 + n)) q 0 ≡ get_or b.counts q 0 + x) (eqb q p) n 0
    (λ e. let z : q ≡ p = eqb-true q p e in rw z (get_or-set_same b.counts p (get_or b.counts p 0 + n) 0 h))
    (λ e. get_or-set_other b.counts p q (get_or b.counts p 0 + n) 0 (eqb-false q p e) ∙ omega arith))

-- ---- a bill has as many places before and after

abbrev AsLong : Bill → Bill → Type 0
AsLong b c = length c.counts ≡ length b.counts

raised-length : (b : Bill) (p n : ℕ) → AsLong b (raised b p n)
unfolding raised
raised-length b p n =
    let sum = get_or b.counts p 0 + n in
    pick_both (AsLong b) b.full refl (pick_both (AsLong b) (ltb sum (2 ^ 64)) (length-set b.counts p sum) refl)

added_length : (b : Bill) (e : Event) → AsLong b (added_to b e)
unfolding added_to billed bill_kept
added_length b e =
    let d = dues_of e in
    let first = raised b d.place 1 in
    pick_both (AsLong b) (raised first d.other d.also).full refl (raised-length first d.other d.also ∙ raised-length b d.place 1)

-- ---- one event

pub record Added (b c : Bill) (e : Event) : Type 0 where
  pub open_before : b.full ≡ false
  pub sums : (q : ℕ) → get_or c.counts q 0 ≡ get_or b.counts q 0 + owed_at q (dues_of e)

added_sum : (b : Bill) (e : Event) → length b.counts ≡ 27 → (added_to b e).full ≡ false → Added b (added_to b e) e
unfolding added_to billed bill_kept
added_sum b e len =
    let d = dues_of e in
    let w = dues_within e in
    let first = raised b d.place 1 in
    let last = raised first d.other d.also in
    by_flag (λ c. c.full ≡ false → Added b c e) last.full _ _ (λ t h. clash refl h)
    (λ t h.
    let n = raised-sum first d.other d.also h in
    let m = raised-sum b d.place 1 n.open_before in
    let l = raised-length b d.place 1 in
    record {
      open_before = m.open_before;
      sums = λ q. omega (arith, more_at b first d.place 1 q m (omega arith), more_at first last d.other d.also q n (omega arith));
    })

-- ---- a list of events

-- a bill that is not full holds at each place what the events owe there, none left out
pub bill_owed : (b : Bill) (es : List Event) → length b.counts ≡ 27 → (all_added b es).full ≡ false
    → (b.full ≡ false) × ((p : ℕ) → get_or (all_added b es).counts p 0 ≡ get_or b.counts p 0 + owed_in p es)
unfolding all_added owed_in
bill_owed b [] len h = (h, λ p. omega arith)
bill_owed b (e ∷ es) len h =
    let ih = bill_owed (added_to b e) es (added_length b e ∙ len) h in
    let a = added_sum b e len ih.0 in
    (a.open_before, λ p. omega (arith, ih.1 p, a.sums p))

pub empty_bill_owed : (es : List Event) → (all_added empty_bill es).full ≡ false → (p : ℕ) → p < 27 → get_or (all_added empty_bill es).counts p 0 ≡ owed_in p es
empty_bill_owed es h p l =
    let z : get_or empty_bill.counts p 0 ≡ 0 = get_or-replicate 27 p 0 0 l in
    omega (arith, (bill_owed empty_bill es refl h).1 p)
