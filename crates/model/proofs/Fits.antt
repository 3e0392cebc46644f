-- Settings in range and slices of the right lengths are fit: the ranges as facts.
use Rattle.words.proofs.General.{ℕ, zero, suc, ◌*◌, ◌≤◌, mul-le-mul, arith, ◌≡◌, refl, true, List, [], ◌∷◌, length, leb, eqb, leb-true, eqb-true, and_1, and_2, clash, any-in}
use Rattle.words.proofs.General.{all_in}
use Rattle.model.specs.declared.Settings.{Settings}
use Rattle.model.proofs.Terms.{lines_of, in_range, power_to256, is_tree, rule_fine, longs_length, words_length, marks_length, words_from, taken_region, power_to16, Sized, aside}

pub power_pos : (n : ℕ) → power_to256 n ≡ true → 1 ≤ n
power_pos zero e = clash e refl
power_pos (suc n) e = omega arith

pub power_most : (n : ℕ) → power_to256 n ≡ true → n ≤ 256
power_most n e =
    let powers : List ℕ = 1 ∷ 2 ∷ 4 ∷ 8 ∷ 16 ∷ 32 ∷ 64 ∷ 128 ∷ 256 ∷ [] in
    let (x, m, q) = any-in (eqb n) powers e in
    let h : x ≤ 256 = leb-true x 256 (all_in (λ k. leb k 256) powers refl m) in
    rw (eqb-true n x q) h

-- the ranges, as facts
pub record Ranged (S : Settings) : Type 0 where
  pub power : power_to256 S.sets ≡ true
  pub sets : 1 ≤ S.sets
  pub ways : 1 ≤ S.ways
  pub few_ways : S.ways ≤ 16
  pub lines : lines_of S ≤ 1024
  pub dirty : S.dirty ≤ 100
  pub entry : 1 ≤ S.misses
  pub misses : S.misses ≤ 64
  pub reader : 1 ≤ S.readers
  pub readers : S.readers ≤ 8
  pub place : 2 ≤ S.queue
  pub queue : S.queue ≤ 64

pub ranged : (S : Settings) → in_range S ≡ true → Ranged S
unfolding in_range
ranged S e = record {
  power = search (and_1, and_2) depth 9;
  sets = power_pos S.sets (search (and_1, and_2) depth 9);
  ways = leb-true 1 S.ways (search (and_1, and_2) depth 9);
  few_ways = leb-true S.ways 16 (search (and_1, and_2) depth 9);
  lines = leb-true (lines_of S) 1024 (search (and_1, and_2) depth 9);
  dirty = leb-true S.dirty 100 (search (and_1, and_2) depth 9);
  entry = leb-true 1 S.misses (search (and_1, and_2) depth 9);
  misses = leb-true S.misses 64 (search (and_1, and_2) depth 9);
  reader = leb-true 1 S.readers (search (and_1, and_2) depth 9);
  readers = leb-true S.readers 8 (search (and_1, and_2) depth 9);
  place = leb-true 2 S.queue (search (and_1, and_2) depth 9);
  queue = leb-true S.queue 64 (search (and_1, and_2) depth 9);
}

pub sets_most : (S : Settings) → in_range S ≡ true → S.sets ≤ 256
sets_most S e = power_most S.sets (ranged S e).power

-- a tree goes over a power of two of ways
pub tree_power : (S : Settings) → in_range S ≡ true → is_tree S ≡ true → power_to16 S.ways ≡ true
unfolding in_range
tree_power S range e =
    let fine : rule_fine S ≡ true = search (and_1, and_2) in
    let two : S.rule ≡ 2 = eqb-true S.rule 2 e in
    rw two at fine

pub fit : (S : Settings) (longs words marks : List ℕ) → (in_range S ≡ true) × (length longs ≡ longs_length S) × (length words ≡ words_length S) × (length marks ≡ marks_length S) → Sized S longs words marks
fit S longs words marks (r, l, w, m) =
    let a = ranged S r in
    let t : S.readers * S.misses ≤ 8 * 64 = mul-le-mul a.readers a.misses in
    let room : words_from S taken_region ≤ length words = omega arith in
    let long = aside w in
    let tree = tree_power S r in
    search
