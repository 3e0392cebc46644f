-- What `tables_sound` answers, of what the checks of each part ensure.
use Rattle.words.proofs.General.{ℕ, zero, suc, ◌+◌, ◌*◌, ◌-◌, ◌^◌, ◌<◌, add-zero, arith, ◌≡◌, refl, sym, ◌∙◌, Bool, true, false, not, ◌&&◌, and-false, and-true, List, get_or, leb}
use Rattle.words.proofs.General.{length, take, drop, length-take-le, length-drop, get_or-take, get_or-drop, every-same, ltb, eqb, le-ltb, eqb-true, eq-eqb, ne_eqb, pick, every, imp, and_1, and_2, not_yes, no-not, clash, imp_use, every_at}
use Rattle.model.specs.declared.Settings.{Settings}
use Rattle.model.proofs.Terms.{lines_of, is_tree, now_at, queue_kind_at, last_cycle, gathered, now_fine, lines_fine, sector_fine, ticket_fine, entry_fine, place_fine, sound_numbers, count_fine}
use Rattle.model.proofs.Terms.{set_fine, tree_fine, tree_at, words_from, tree_region, told}
use Rattle.layout.specs.declared.geometry.Slices.{Slices}
use Rattle.layout.specs.Held.{held}
use Rattle.layout.specs.declared.Layout.{Layout}
use Rattle.layout.specs.Layout.{LaysOut}
use Rattle.layout.specs.Places.{First}
use Rattle.layout.proofs.ByPlace.{read_from}
use Rattle.soundness.specs.Limits.{tree_limit}
use Rattle.soundness.specs.Queued.{Queued}

-- ---- where the queue ends

module _ (S : Settings) {at : Layout} (p : LaysOut S at) (marks : List ℕ) where
  pub queue_ends : {n : ℕ} → gathered S.queue (queue_kind_at S marks) ≡ true → First marks at.kinds S.queue 0 n → Queued S marks n
  queue_ends {n} g f = record { most = f.most; behind = λ k h l. let e : n + (k - n) ≡ k = omega arith in rw e at (run (k - n) (omega arith)) }
    where
      run : (d : ℕ) → n + d < S.queue → queue_kind_at S marks (n + d) ≡ 0
      run zero h = rw add-zero (sym (read_from p.kinds marks n) ∙ f.there (omega arith))
      run (suc d) h =
          let e = every_at (λ i. imp (eqb (queue_kind_at S marks i) 0) (eqb (queue_kind_at S marks (i + 1)) 0)) (S.queue - 1) (n + d) g (omega arith) in
          let s : n + d + 1 ≡ n + suc d = omega arith in
          let z : queue_kind_at S marks (n + d + 1) ≡ 0 = eqb-true _ _ (imp_use (eqb (queue_kind_at S marks (n + d)) 0) _ e (eq-eqb _ _ (run d (omega arith)))) in
          rw s at z

-- ---- the current cycle, the queue's end and the lines first

-- of ten conditions three are asked first
three_no : (n l a b c d e f g h : Bool) → (n && e && l) ≡ false → false ≡ (n && l && a && b && c && d && e && f && g && h)
three_no false l a b c d e f g h z = refl
three_no true false a b c d e f g h z = refl
three_no true true a b c d false f g h z = rw (and-false (a && b && c && d))
three_no true true a b c d true f g h z = clash refl z

module _ (S : Settings) (longs words marks : List ℕ) where
  pub record Firstly : Type 0 where
    pub now : now_fine S longs words marks ≡ true
    pub kinds : gathered S.queue (queue_kind_at S marks) ≡ true
    pub lines : lines_fine S longs words marks ≡ true

  module _ {at : Layout} (p : LaysOut S at) (q r : Bool) (kinds : q ≡ gathered S.queue (λ i. get_or marks (at.kinds + i) 0)) (lines : r ≡ lines_fine S longs words marks) where
    abbrev first : Bool
    first = leb (now_at words) last_cycle && q && r

    firstly : first ≡ (now_fine S longs words marks && gathered S.queue (queue_kind_at S marks) && lines_fine S longs words marks)
    firstly = rw (kinds, lines, p.kinds)

    pub unsound : not first ≡ true → false ≡ sound_numbers S longs words marks
    unfolding sound_numbers
    unsound t = three_no (now_fine S longs words marks) (lines_fine S longs words marks) _ _ _ _ (gathered S.queue (queue_kind_at S marks)) _ _ _ (sym firstly ∙ not_yes {b = first} t)

    pub first-yes : not first ≡ false → Firstly
    first-yes t = let e = sym firstly ∙ no-not {b = first} t in search (and_1, and_2)

  pub rest : {at : Layout} → LaysOut S at → Firstly → {a b c d f g h : Bool}
      → a ≡ every (4 * lines_of S) (sector_fine S longs words marks)
      → b ≡ every (S.readers * S.misses) (ticket_fine S longs words marks)
      → c ≡ gathered S.misses (λ i. get_or marks (at.counts + i) 0)
      → d ≡ every S.misses (entry_fine S longs words marks)
      → f ≡ every S.queue (place_fine S longs words marks)
      → g ≡ count_fine S longs words marks
      → h ≡ every S.sets (set_fine S longs words marks)
      → (a && b && c && d && f && g && h) ≡ sound_numbers S longs words marks
  unfolding sound_numbers
  rest p y {a} {b} {c} {d} qa qb qc qd qf qg qh =
      let k = rw p.counts at qc in
      rw (y.now, y.lines, y.kinds, ← qa, ← qb, ← k, ← qd, ← qf, ← qg, ← qh, and-true (a && b && c && d))

-- a tree below the limit
pub below_limit : (S : Settings) (t : ℕ) → ltb t (tree_limit S) ≡ tree_fine (is_tree S) S.ways t
below_limit S t = go (is_tree S) t
  where
    none : (t : ℕ) → ltb t 1 ≡ eqb t 0
    none zero = refl
    none (suc t) = le-ltb (suc t) 1 (omega arith) ∙ sym (ne_eqb (suc t) 0 (λ e. absurd (omega arith)))

    go : (b : Bool) (t : ℕ) → ltb t (pick b (2 ^ (S.ways - 1)) 1) ≡ tree_fine b S.ways t
    go true t = refl
    go false t = none t

-- every tree of the slice is below the limit
pub trees_below : (t : Slices) {most : ℕ} → most ≡ tree_limit t.geometry.settings
    → (read : List ℕ) → read ≡ take t.geometry.settings.sets (drop t.geometry.at.trees t.words.now)
    → every (length read) (λ k. ltb (get_or read k 0) most) ≡ every t.geometry.settings.sets (held t set_fine)
trees_below t {most} e read q =
    rw (q, long) (every-same _ _ S.sets (λ k h. rw (e, get_or-take S.sets (drop t.geometry.at.trees words) k 0 h, get_or-drop t.geometry.at.trees words k 0, read_from trees words k) (below_limit S (tree_at S words k))))
  where
    S : Settings
    S = t.geometry.settings

    words : List ℕ
    words = t.words.now

    trees : t.geometry.at.trees ≡ words_from S tree_region
    trees = told t.geometry.laid.trees

    long : length (take S.sets (drop t.geometry.at.trees words)) ≡ S.sets
    long = length-take-le S.sets (drop t.geometry.at.trees words) (rw length-drop (omega (arith, trees, told t.sized.words_long)))
