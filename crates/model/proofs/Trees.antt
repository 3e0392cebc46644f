-- Laws of the tree rule, for 2^k ways and any k: the choice is a candidate if there is one, an access turns the nodes on its path and no
-- others, and sets no bit beyond the nodes in use. Then the worked examples.
use Rattle.std.specs.Prelude.{Option, Some, None}
use Rattle.words.proofs.General.{ℕ, zero, suc, ◌+◌, ◌*◌, ◌-◌, ◌/◌, ◌%◌, ◌^◌, ◌≤◌, ◌<◌, pow-suc, mul_assoc, add-zero, mul-le-mul, eq-or-lt_of_le, le_of_suc-le-suc, arith, ◌≡◌, refl}
use Rattle.words.proofs.General.{sym, ap, subst, ◌∙◌, ◌⊎◌, inl, inr, ⊎_elim, Bool, true, false, ◌&&◌, List, [], ◌∷◌, eqb, leb, ltb, eqb-true, ltb-true, lt-ltb, ltb-false, leb-true}
use Rattle.words.proofs.General.{leb-false, pick, and_1, and_2, flag, clash, no-yes, by_flag, In, all_in, any-in, some_at, some_i, some_same}
use lib.Pow.{pow_pos, high}
use Rattle.model.proofs.Terms.{tree_bit, with_bit, is_in, named, pointed, some_from, goes, descent, tree_choice, side_of, turned, touched_tree, power_to16, halvings, levels}
use Rattle.model.proofs.Terms.{tree_fine}
use Rattle.model.proofs.TreeBits.{bit_two, halves, put_same, put_other, put_below}

-- ---- halves of a span, as the descent takes them

module _ (p : ℕ → Bool) where
  some_in : (first width w : ℕ) → first ≤ w → w < first + width → p w ≡ true → some_from p first width ≡ true
  some_in first width w a b e =
      let s : first + (w - first) ≡ w = omega arith in
      some_i (λ i. p (first + i)) width (w - first) (omega arith) (ap p s ∙ e)

  -- a candidate of a span stands in one of its halves
  in_half : (k first : ℕ) → some_from p first (2 ^ suc k) ≡ true
      → (some_from p (first + 0 * 2 ^ k) (2 ^ k) ≡ true) ⊎ (some_from p (first + 1 * 2 ^ k) (2 ^ k) ≡ true)
  in_half k first e =
      let (i, a, t) = some_at (λ i. p (first + i)) (2 ^ suc k) e in
      ⊎_elim (λ l. let h = ltb-true i (2 ^ k) l in inl (some_in (first + 0 * 2 ^ k) (2 ^ k) (first + i) (omega arith) (omega arith) t))
      (λ l. let h = ltb-false i (2 ^ k) l in inr (some_in (first + 1 * 2 ^ k) (2 ^ k) (first + i) (omega arith) (omega arith) t))
      (flag (ltb i (2 ^ k)))

-- a half of a span lies in it
half_inside : (k first w : ℕ) {h : ℕ} → h < 2 → first + h * 2 ^ k ≤ w → w < first + h * 2 ^ k + 2 ^ k → (first ≤ w) × (w < first + 2 ^ suc k)
half_inside k first w {h} l a b = let g : h * 2 ^ k ≤ 1 * 2 ^ k = mul-le-mul (omega arith) (omega arith) in (omega arith, omega arith)

-- ---- the choice

module _ (p : ℕ → Bool) (t : ℕ) where
  pub goes_two : (k n first : ℕ) → goes p t k n first < 2
  unfolding goes
  goes_two k n first =
      let l = bit_two t (n - 1) in
      by_flag (λ (h : ℕ). h < 2) (some_from p (first + named t n * 2 ^ k) (2 ^ k)) (named t n) (1 - named t n) (λ e. l) (λ e. omega arith)

  -- the half that the descent goes to has a candidate if the span has one
  goes_well : (k n first : ℕ) → some_from p first (2 ^ suc k) ≡ true → some_from p (first + goes p t k n first * 2 ^ k) (2 ^ k) ≡ true
  unfolding goes
  goes_well k n first e =
      by_flag (λ (h : ℕ). some_from p (first + h * 2 ^ k) (2 ^ k) ≡ true) (some_from p (first + named t n * 2 ^ k) (2 ^ k)) (named t n) (1 - named t n)
      (λ y. y) (λ none. ⊎_elim
      (λ z. let zero-none : some_from p (first + 0 * 2 ^ k) (2 ^ k) ≡ false = rw z at none in
      rw z (⊎_elim (λ y. clash y zero-none) (λ y. y) (in_half p k first e)))
      (λ z. let one_none : some_from p (first + 1 * 2 ^ k) (2 ^ k) ≡ false = rw z at none in
      rw z (⊎_elim (λ y. y) (λ y. clash y one_none) (in_half p k first e)))
      (halves (bit_two t (n - 1))))

  -- one of the ways of the span
  pub descent_is_way : (k n first : ℕ) → (first ≤ descent p t k n first) × (descent p t k n first < first + 2 ^ k)
  unfolding descent
  descent_is_way zero n first = (omega arith, omega arith)
  descent_is_way (suc k) n first =
      let r = descent_is_way k (2 * n + goes p t k n first) (first + goes p t k n first * 2 ^ k) in
      half_inside k first _ (goes_two k n first) r.0 r.1

  pub descent_is_candidate : (k n first : ℕ) → some_from p first (2 ^ k) ≡ true → p (descent p t k n first) ≡ true
  unfolding descent
  descent_is_candidate zero n first e = ap p (sym (add-zero first)) ∙ e
  descent_is_candidate (suc k) n first e =
      descent_is_candidate k (2 * n + goes p t k n first) (first + goes p t k n first * 2 ^ k) (goes_well k n first e)

-- a way that passes, or none does
abbrev pub Chooses : (ℕ → Bool) → ℕ → Option ℕ → Type 0
Chooses p n None = (w : ℕ) → w < n → p w ≡ false
Chooses p n (Some w) = (w < n) × (p w ≡ true)

pub choice_chooses : (p : ℕ → Bool) (t k : ℕ) → Chooses p (2 ^ k) (tree_choice p t k)
choice_chooses p t k =
    by_flag (Chooses p (2 ^ k)) (some_from p 0 (2 ^ k)) (Some (descent p t k 1 0)) None
    (λ e. let r = descent_is_way p t k 1 0 in (omega (arith, r.1), descent_is_candidate p t k 1 0 e))
    (λ e w l. no-yes (λ y. clash (some_in p 0 (2 ^ k) w (omega arith) (omega arith) y) e))

-- ---- other candidates

-- the same candidates
from_same : (p q : ℕ → Bool) (first width : ℕ) → ((w : ℕ) → first ≤ w → w < first + width → p w ≡ q w) → some_from p first width ≡ some_from q first width
from_same p q first width f = some_same (λ i. p (first + i)) (λ i. q (first + i)) width (λ i h. f (first + i) (omega arith) (omega arith))

module _ (p q : ℕ → Bool) (t : ℕ) where
  pub descent-same : (k n first : ℕ) → ((w : ℕ) → first ≤ w → w < first + 2 ^ k → p w ≡ q w) → descent p t k n first ≡ descent q t k n first
  unfolding descent goes
  descent-same zero n first f = refl
  descent-same (suc k) n first f =
      let e : some_from p (first + named t n * 2 ^ k) (2 ^ k) ≡ some_from q (first + named t n * 2 ^ k) (2 ^ k) =
      from_same p q _ _ (λ w a b. let h = half_inside k first w (bit_two t (n - 1)) a b in f w h.0 h.1) in
      let g : goes p t k n first ≡ goes q t k n first = ap (λ (b : Bool). pick b (named t n) (1 - named t n)) e in
      descent-same k _ _ (λ w a b. let h = half_inside k first w (goes_two p t k n first) a b in f w h.0 h.1)
      ∙ ap (λ (h : ℕ). descent q t k (2 * n + h) (first + h * 2 ^ k)) g

  pub choice_same : (k : ℕ) → ((w : ℕ) → w < 2 ^ k → p w ≡ q w) → tree_choice p t k ≡ tree_choice q t k
  choice_same k f =
      let e = from_same p q 0 (2 ^ k) (λ w a b. f w (omega arith)) in
      rw (e, descent-same k 1 0 (λ w a b. f w (omega arith)))

-- ---- after an access

-- a node on the path to a way, and the half that the path takes there
pub record Step : Type 0 where
  pub node : ℕ
  pub half : ℕ

abbrev pub path : ℕ → ℕ → ℕ → ℕ → List Step
path zero n first w = []
path (suc k) n first w =
    record { node = n; half = side_of k first w } ∷ path k (2 * n + side_of k first w) (first + side_of k first w * 2 ^ k) w

side_two : (k first w : ℕ) → side_of k first w < 2
side_two k first w = by_flag (λ (h : ℕ). h < 2) (ltb w (first + 2 ^ k)) 0 1 (λ e. omega arith) (λ e. omega arith)

-- the path leads to the way
pub path_leads : (k first w : ℕ) → first ≤ w → w < first + 2 ^ suc k
    → (first + side_of k first w * 2 ^ k ≤ w) × (w < first + side_of k first w * 2 ^ k + 2 ^ k)
path_leads k first w a b =
    by_flag (λ (h : ℕ). (first + h * 2 ^ k ≤ w) × (w < first + h * 2 ^ k + 2 ^ k)) (ltb w (first + 2 ^ k)) 0 1
    (λ e. let l = ltb-true w (first + 2 ^ k) e in (omega arith, omega arith)) (λ e. let l = ltb-false w (first + 2 ^ k) e in (omega arith, omega arith))

path_below : (k n first w : ℕ) (s : Step) → 1 ≤ n → In s (path k n first w) → n ≤ s.node
path_below zero n first w s l i = absurd i
path_below (suc k) n first w s l (inl e) = rw e (omega arith)
path_below (suc k) n first w s l (inr i) = let r = path_below k (2 * n + side_of k first w) _ w s (omega arith) i in omega arith

-- "all other nodes stay"
pub turned-others : (t k n first w m : ℕ) → 1 ≤ n → 1 ≤ m → ((s : Step) → In s (path k n first w) → s.node ≡ m → ⊥)
    → named (turned t k n first w) m ≡ named t m
unfolding turned
turned-others t zero n first w m l j f = refl
turned-others t (suc k) n first w m l j f =
    let d : n - 1 ≡ m - 1 → ⊥ = λ e. f (record { node = n; half = side_of k first w }) (inl refl) (omega arith) in
    turned-others (pointed t n (1 - side_of k first w)) k _ _ w m (omega arith) j (λ s i. f s (inr i))
    ∙ put_other t (n - 1) (m - 1) (1 - side_of k first w) (omega arith) d

-- "each node on the path to its way points to the half not taken"
pub turned-path : (t k n first w : ℕ) (s : Step) → 1 ≤ n → In s (path k n first w) → named (turned t k n first w) s.node ≡ 1 - s.half
unfolding turned
turned-path t zero n first w s l i = absurd i
turned-path t (suc k) n first w s l (inl e) =
    let f : (x : Step) → In x (path k (2 * n + side_of k first w) (first + side_of k first w * 2 ^ k) w) → x.node ≡ n → ⊥ =
    λ x i q. let r = path_below k (2 * n + side_of k first w) _ w x (omega arith) i in omega arith in
    rw e (turned-others (pointed t n (1 - side_of k first w)) k _ _ w n (omega arith) l f ∙ put_same t (n - 1) (1 - side_of k first w) (omega arith))
turned-path t (suc k) n first w s l (inr i) = turned-path (pointed t n (1 - side_of k first w)) k _ _ w s (omega arith) i

-- ---- the same by the numbers of the nodes: way w of 2^k stands below them as node 2^k + w would, and n / 2 lies above n

-- below node n, the way as a node
abbrev leaf : ℕ → ℕ → ℕ → ℕ → ℕ
leaf k n first w = n * 2 ^ k + (w - first)

module _ (k n first w : ℕ) (from : first ≤ w) (to : w < first + 2 ^ suc k) where
  leaf-same : leaf k (2 * n + side_of k first w) (first + side_of k first w * 2 ^ k) w ≡ leaf (suc k) n first w
  leaf-same =
      let e : n * 2 ^ suc k ≡ n * 2 ^ k * 2 = ap (λ (x : ℕ). n * x) (pow-suc 2 k) ∙ sym (mul_assoc n (2 ^ k) 2) in
      omega (arith, path_leads k first w from to)

  leaf_node : n ≡ leaf (suc k) n first w / 2 ^ suc k
  leaf_node = sym (high n (suc k) (omega arith))

  leaf_half : side_of k first w ≡ leaf (suc k) n first w / 2 ^ k % 2
  leaf_half =
      let l = path_leads k first w from to in
      let u = side_two k first w in
      let e : leaf (suc k) n first w / 2 ^ k ≡ 2 * n + side_of k first w = ap (λ (x : ℕ). x / 2 ^ k) (sym leaf-same) ∙ high (2 * n + side_of k first w) k (omega arith) in
      omega arith

-- a node on the path lies above the way
path_from : (k n first w : ℕ) → first ≤ w → w < first + 2 ^ k → (s : Step) → In s (path k n first w)
    → (j : ℕ) × (j < k) × (s.node ≡ leaf k n first w / 2 ^ suc j)
path_from zero n first w a b s i = absurd i
path_from (suc k) n first w a b s (inl e) = (k, omega arith, ap (λ (s : Step). s.node) e ∙ leaf_node k n first w a b)
path_from (suc k) n first w a b s (inr i) =
    let l = path_leads k first w a b in
    let (j, c, d) = path_from k (2 * n + side_of k first w) (first + side_of k first w * 2 ^ k) w l.0 l.1 s i in
    (j, omega arith, d ∙ ap (λ (x : ℕ). x / 2 ^ suc j) (leaf-same k n first w a b))

abbrev above : ℕ → ℕ → Step
above x j = record { node = x / 2 ^ suc j; half = x / 2 ^ j % 2 }

-- and each node above it is on the path
path_to : (k n first w : ℕ) → first ≤ w → w < first + 2 ^ k → (j : ℕ) → j < k → In (above (leaf k n first w) j) (path k n first w)
path_to zero n first w a b j l = absurd (omega arith)
path_to (suc k) n first w a b j l =
    ⊎_elim
    (λ e. inl (rw e (λ i. record { node = sym (leaf_node k n first w a b) i; half = sym (leaf_half k n first w a b) i })))
    (λ m. let c = path_leads k first w a b in
    let r = path_to k (2 * n + side_of k first w) (first + side_of k first w * 2 ^ k) w c.0 c.1 j m in
    inr (subst (λ (x : ℕ). In (above x j) (path k (2 * n + side_of k first w) (first + side_of k first w * 2 ^ k) w)) (leaf-same k n first w a b) r))
    (eq-or-lt_of_le (le_of_suc-le-suc l))

root : (k w : ℕ) → leaf k 1 0 w ≡ 2 ^ k + w
root k w = omega arith

-- "each node on the path to its way points to the half not taken": 0 if the path goes on in the upper half, at an odd node
pub touched_path : (t k w j : ℕ) → w < 2 ^ k → j < k → named (touched_tree t k w) ((2 ^ k + w) / 2 ^ suc j) ≡ 1 - (2 ^ k + w) / 2 ^ j % 2
touched_path t k w j l m =
    rw (root k w) at (turned-path t k 1 0 w (above (leaf k 1 0 w) j) (omega arith) (path_to k 1 0 w (omega arith) (omega arith) j m))

pub touched_others : (t k w m : ℕ) → w < 2 ^ k → 1 ≤ m → ((j : ℕ) → j < k → (2 ^ k + w) / 2 ^ suc j ≡ m → ⊥) → named (touched_tree t k w) m ≡ named t m
touched_others t k w m l b f =
    turned-others t k 1 0 w m (omega arith) b
    (λ s i e. let (j, c, d) = path_from k 1 0 w (omega arith) (omega arith) s i in
    f j c (ap (λ (x : ℕ). x / 2 ^ suc j) (sym (root k w)) ∙ sym d ∙ e))

-- ---- bits beyond the nodes in use

-- (n + 1) 2^(k + 1) ≤ 2 N
pub nodes_down : (n k N : ℕ) → n * 2 ^ suc k + 2 ^ suc k ≤ N * 2 → (n + 1 ≤ N) × ((h : ℕ) → h < 2 → (2 * n + h) * 2 ^ k + 2 ^ k ≤ N * 2)
nodes_down n k N l =
    let d = pow-suc 2 k in
    let e : n * 2 ^ suc k ≡ n * 2 ^ k * 2 = ap (λ (x : ℕ). n * x) d ∙ sym (mul_assoc n (2 ^ k) 2) in
    let m : n * 1 ≤ n * 2 ^ k = mul-le-mul (omega arith) (pow_pos k) in
    (omega (arith, pow_pos k), λ h b. let g : h * 2 ^ k ≤ 1 * 2 ^ k = mul-le-mul (omega arith) (omega arith) in omega arith)

pub turned_below : (N t k n first w : ℕ) → 1 ≤ n → n * 2 ^ k + 2 ^ k ≤ N * 2 → t < 2 ^ (N - 1) → turned t k n first w < 2 ^ (N - 1)
unfolding turned
turned_below N t zero n first w l b h = h
turned_below N t (suc k) n first w l b h =
    let u = side_two k first w in
    let (c, r) = nodes_down n k N b in
    turned_below N (pointed t n (1 - side_of k first w)) k _ _ w (omega arith) (r (side_of k first w) u) (put_below (N - 1) t (n - 1) (1 - side_of k first w) (omega arith) h (omega arith))

-- "3 for tree bits set beyond the nodes in use": an access sets none
pub touched_fine : (t k w : ℕ) → t < 2 ^ (2 ^ k - 1) → touched_tree t k w < 2 ^ (2 ^ k - 1)
touched_fine t k w = turned_below (2 ^ k) t k 1 0 w (omega arith) (omega arith)

-- one way: the tree stays, and way 0 is chosen
pub one_way : (t w : ℕ) (p : ℕ → Bool) → (touched_tree t 0 w ≡ t) × (descent p t 0 1 0 ≡ 0)
unfolding turned descent
one_way t w p = (refl, refl)

-- ---- the number of ways

halvings_reach : (f n : ℕ) → n ≤ f → n ≤ 2 ^ halvings f n
halvings_reach zero n l = omega arith
halvings_reach (suc f) n l =
    by_flag (λ (k : ℕ). n ≤ 2 ^ k) (leb n 1) 0 (suc (halvings f ((n + 1) / 2)))
    (λ e. leb-true n 1 e)
    (λ e. let g = leb-false n 1 e in
    let r = halvings_reach f ((n + 1) / 2) (omega arith) in omega arith)

-- no way is left out, whatever their number
pub levels_reach : (n : ℕ) → n ≤ 2 ^ levels n
unfolding levels
levels_reach n = halvings_reach n n (omega arith)

pub levels_are : (n : ℕ) → power_to16 n ≡ true → (n ≡ 2 ^ levels n) × (n ≤ 16)
unfolding levels
levels_are n e =
    let (m, i, q) = any-in (eqb n) (1 ∷ 2 ∷ 4 ∷ 8 ∷ 16 ∷ []) e in
    let h : (eqb m (2 ^ halvings m m) && leb m 16) ≡ true = all_in (λ m. eqb m (2 ^ halvings m m) && leb m 16) (1 ∷ 2 ∷ 4 ∷ 8 ∷ 16 ∷ []) refl i in
    rw (eqb-true n m q) (eqb-true _ _ (and_1 (eqb m (2 ^ halvings m m)) (leb m 16) h), leb-true _ _ (and_2 (eqb m (2 ^ halvings m m)) (leb m 16) h))

-- a tree that refusal 3 does not refuse stays one
pub touched_keeps : (t w ways : ℕ) → power_to16 ways ≡ true → tree_fine true ways t ≡ true → tree_fine true ways (touched_tree t (levels ways) w) ≡ true
touched_keeps t w ways power e =
    let q = (levels_are ways power).0 in
    let b : t < 2 ^ (2 ^ levels ways - 1) = rw q at (ltb-true t (2 ^ (ways - 1)) e) in
    lt-ltb _ _ (subst (λ (x : ℕ). touched_tree t (levels ways) w < 2 ^ (x - 1)) (sym q) (touched_fine t (levels ways) w b))

-- ---- worked examples

-- 4 ways, fresh: accesses to ways 3, 2, 1, 0
four : touched_tree (touched_tree (touched_tree (touched_tree 0 2 3) 2 2) 2 1) 2 0 ≡ 7
unfolding turned with_bit
four = refl

-- then way 3 goes among all, and way 1 if 2 and 3 are no candidates; an access to way 3 leaves 2
four_chosen : (tree_choice (is_in 15) 7 2 ≡ Some 3) × (touched_tree 7 2 3 ≡ 2) × (tree_choice (is_in 3) 7 2 ≡ Some 1) × (tree_choice (is_in 0) 7 2 ≡ None)
unfolding turned with_bit tree_bit descent goes
four_chosen = (refl, refl, refl, refl)
