-- A loop that goes on behind a fault, a test that follows from another, two tests at each place, and a test of sixteen places at a time.
use Rattle.words.proofs.General.{ℕ, zero, suc, ◌+◌, ◌*◌, ◌/◌, ◌%◌, ◌≤◌, ◌<◌, add-zero, add-suc, mul-suc, add-one, arith, ◌≡◌, refl, ap, ◌∙◌, Bool, true, false, ◌&&◌, and_assoc}
use Rattle.words.proofs.General.{and_comm, and-true, and-false, every}

module _ (p : ℕ → Bool) where
  -- a loop that goes on behind a fault: b says that there was none
  abbrev pub Joined : ℕ → ℕ → Bool → Type 0
  Joined n i b = (i ≤ n) × (b ≡ every i p)

  pub joined_more : (n i : ℕ) {b r : Bool} → i < n → r ≡ p i → Joined n i b → Joined n (i + 1) (b && r)
  joined_more n i h e w = (omega arith, rw (add-one i, e, w.1))

  pub joined_end : (n i : ℕ) {b : Bool} → n ≤ i → Joined n i b → b ≡ every n p
  joined_end n i h w = let e : n ≡ i = omega arith in rw e w.1

-- ---- tests of which one follows from another

pub and_implied : {a b : Bool} → (a ≡ true → b ≡ true) → a ≡ (b && a)
and_implied {a = true} {b} f = rw (f refl)
and_implied {a = false} {b} f = rw and-false

-- ---- two tests at each place

pub swap : (a b c d : Bool) → (a && b && (c && d)) ≡ (a && c && (b && d))
swap a b c d = rw (and_assoc a b (c && d), ← and_assoc b c d, and_comm b c, and_assoc c b d, ← and_assoc a c (b && d))

module _ (p q : ℕ → Bool) where
  pub every-both : (n : ℕ) → (every n p && every n q) ≡ every n (λ i. p i && q i)
  every-both zero = refl
  every-both (suc n) = rw (← every-both n) (swap (every n p) (p n) (every n q) (q n))

-- ---- a test of sixteen places at a time, then of the rest

module _ (p : ℕ → Bool) where
  abbrev sixteen : ℕ → Bool
  sixteen g = every 16 (λ k. p (16 * g + k))

  every_plus : (a b : ℕ) → every (a + b) p ≡ (every a p && every b (λ k. p (a + k)))
  every_plus a zero = rw (add-zero, and-true)
  every_plus a (suc b) = rw (add-suc, every_plus a b, and_assoc)

  every-groups : (g : ℕ) → every (16 * g) p ≡ every g sixteen
  every-groups zero = refl
  every-groups (suc g) = rw (mul-suc, every_plus (16 * g) 16, every-groups g)

  every_sixteens : (n : ℕ) → (every (n / 16) sixteen && every (n % 16) (λ k. p (16 * (n / 16) + k))) ≡ every n p
  every_sixteens n =
      let s : 16 * (n / 16) + n % 16 ≡ n = omega arith in
      rw (← every-groups (n / 16), ← every_plus (16 * (n / 16)) (n % 16), s)

  pub sixteens_stop : (n : ℕ) → false ≡ every (n / 16) sixteen → false ≡ every n p
  sixteens_stop n e = ap (λ (b : Bool). b && every (n % 16) (λ k. p (16 * (n / 16) + k))) e ∙ every_sixteens n

  pub sixteens_end : (n : ℕ) {r : Bool} → true ≡ every (n / 16) sixteen → r ≡ every (n % 16) (λ k. p (16 * (n / 16) + k)) → r ≡ every n p
  sixteens_end n e q = q ∙ ap (λ (b : Bool). b && every (n % 16) (λ k. p (16 * (n / 16) + k))) e ∙ every_sixteens n
