-- Reading a record at a place, by the tests that the code makes; what a whole record is.
use Rattle.model.specs.RecordsOf.{whole_record}
use Rattle.model.specs.declared.Body.{Body}
use Rattle.std.specs.Prelude.{Result, Err}
use Rattle.words.proofs.General.{ℕ, ◌+◌, ◌-◌, ◌≤◌, ◌<◌, arith, ◌≡◌, sym, ap, ◌∙◌, List, [], length, get_or, take, drop, ltb, leb, eqb, le-ltb, lt-ltb, le-leb, lt-leb, ne_eqb}
use Rattle.words.proofs.General.{ltb-true, leb-true, by_flag}
use Rattle.model.specs.RecordsOf as records
use Rattle.model.proofs.Terms.{length_of, read_at, body_at}
use Rattle.model.specs.declared.Stop.{Stop}
use Rattle.model.specs.declared.Stop.TheVariants.{UnknownKind, CutShort}

-- ---- the four ways of reading

module _ (s : List ℕ) (at n : ℕ) where
  pub read_end : length s ≤ at → Err CutShort ≡ read_at s at
  unfolding records.read_at
  read_end h = rw (le-ltb at (length s) h)

  pub read_unknown : at < length s → n ≡ length_of (get_or s at 0) → n ≡ 255 → Err UnknownKind ≡ read_at s at
  unfolding records.read_at
  read_unknown h e f = rw (lt-ltb at (length s) h, ← e, f)

  pub read_cut : at < length s → n ≡ length_of (get_or s at 0) → (n ≡ 255 → ⊥) → length s - (at + 1) < n → Err CutShort ≡ read_at s at
  unfolding records.read_at
  read_cut h e f g = rw (lt-ltb at (length s) h, ← e, ne_eqb n 255 f, lt-leb n (length s - (at + 1)) g)

  pub read_whole : at < length s → n ≡ length_of (get_or s at 0) → (n ≡ 255 → ⊥) → n ≤ length s - (at + 1)
      → whole_record (get_or s at 0) (at + 1) n (at + 1 + n) ≡ read_at s at
  unfolding records.read_at
  read_whole h e f g = rw (lt-ltb at (length s) h, ← e, ne_eqb n 255 f, le-leb n (length s - (at + 1)) g)

-- ---- what a whole record is

pub record WholeAt (s : List ℕ) (at k start n next : ℕ) : Type 0 where
  pub here : at < length s
  pub kind : k ≡ get_or s at 0
  pub body : start ≡ at + 1
  pub long : n ≡ length_of k
  pub end : next ≡ start + n
  pub fits : next ≤ length s

never : {X : Type 0} {k start n next : ℕ} {r : Stop} → Err r ≡ whole_record k start n next → X
never q = let z : ◌≡◌ {A = ℕ} 0 1 = cc in absurd (let w : ⊥ = omega arith in w)

pub was_whole : (s : List ℕ) (at k start n next : ℕ) → read_at s at ≡ whole_record k start n next → WholeAt s at k start n next
unfolding records.read_at
was_whole s at k start n next =
    let m = length_of (get_or s at 0) in
    by_flag Is (ltb at (length s)) _ _
    (λ p. by_flag Is (eqb m 255) _ _ (λ q. never)
    (λ q. by_flag Is (leb m (length s - (at + 1))) _ _
    (λ r e.
    let h : at < length s = ltb-true at (length s) p in
    let g : m ≤ length s - (at + 1) = leb-true m (length s - (at + 1)) r in
    let i : ◌≡◌ {A = Body} record { kind = get_or s at 0; start = at + 1; len = m; next = at + 1 + m } record { kind = k; start = start; len = n; next = next } = cc in
    let f0 : k ≡ get_or s at 0 = ap (λ (b : Body). b.kind) (sym i) in
    let f1 : start ≡ at + 1 = ap (λ (b : Body). b.start) (sym i) in
    let f2 : n ≡ m = ap (λ (b : Body). b.len) (sym i) in
    let f3 : next ≡ at + 1 + m = ap (λ (b : Body). b.next) (sym i) in
    record { here = h; kind = f0; body = f1; long = f2 ∙ ap length_of (sym f0); end = omega arith; fits = omega arith })
    (λ r. never)))
    (λ p. never)
  where
    Is : Result Body Stop → Type 0
    Is x = x ≡ whole_record k start n next → WholeAt s at k start n next

-- the part of the stream that holds the body
pub body_whole : (s : List ℕ) (at k start n next : ℕ) → read_at s at ≡ whole_record k start n next → take (next - start) (drop start s) ≡ body_at s at
unfolding records.body_at
body_whole s at k start n next e =
    let w : WholeAt s at k start n next = was_whole s at k start n next e in
    let f : next - start ≡ n = omega arith in
    rw (e, f)

pub body_none : (s : List ℕ) (at : ℕ) (r : Stop) → read_at s at ≡ Err r → [] ≡ body_at s at
unfolding records.body_at
body_none s at r e = rw e
