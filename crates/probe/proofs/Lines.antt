-- The lines read off the slices, and m of them from line b as the ways of a set: what Probe finds there, by the numbers.
use Rattle.std.specs.Prelude.{Option}
use Rattle.words.proofs.General.{ℕ, ◌+◌, ◌≤◌, ◌<◌, arith, ◌≡◌, refl, ap, ap₂, fun_ext, ◌∙◌, ⊎_elim, Bool, true, false, ◌&&◌, and-false, List, [], ◌∷◌, map, length, get_or, take}
use Rattle.words.proofs.General.{drop, pick, all, any, table, some, flag, clash, some_same, length_table, get_or_table, part_table, any_table}
use Rattle.model.proofs.Terms.{lines_of, is_fifo, is_tree, Line, is_invalid, is_reserved, is_modified, wholly_invalid, has_reserved, holds, fresh, line_at, lines_in, tree_at, tree_choice}
use Rattle.model.proofs.Terms.{power_to16, levels, first, or_else, candidate, enough_dirty, age, victim, Rule, by_key, by_tree, choice_by}
use Rattle.model.specs.declared.Settings.{Settings}
use Rattle.model.specs.declared.Status.{Status}
use Rattle.model.specs.declared.Sector.{Sector}
use Rattle.model.proofs.Answers.{by_status}
use Rattle.model.proofs.Ways.{flag_is}
use Rattle.model.proofs.Trees.{choice_same, levels_are}
use Rattle.tables.specs.Raw.{waiting_at}
use Rattle.probe.specs.Scan.{first_below, last_below, least_from, candidate_at, found_in, last_unused_in, earliest_in, ages_from, victim_in, tree_in}
use Rattle.tables.proofs.Statuses.{unused_bytes, waiting_bytes, dirty-bytes, holds-bytes}
use Rattle.probe.proofs.Ways.{first_table, last_table, earliest_table}

-- ---- a wholly invalid line is a candidate

invalid_one : (t : Status) (b : Bool) → (is_invalid t && b) ≡ true → (is_reserved t ≡ false) × (is_modified t ≡ false) × (b ≡ true)
invalid_one t b =
    by_status (λ t. (is_invalid t && b) ≡ true → (is_reserved t ≡ false) × (is_modified t ≡ false) × (b ≡ true)) (λ e. (refl, refl, e)) (λ e. clash e refl) (λ e. clash e refl) (λ e. clash e refl) t

invalid_all : (ss : List Sector) → all (λ s. is_invalid s.status) ss ≡ true
    → (any (λ s. is_reserved s.status) ss ≡ false) × (any (λ s. is_modified s.status) ss ≡ false)
invalid_all [] e = (refl, refl)
invalid_all (s ∷ ss) e =
    let one = invalid_one s.status (all (λ s. is_invalid s.status) ss) e in
    let more = invalid_all ss one.2 in
    (rw one.0 more.0, rw one.1 more.1)

pub unused_candidate : (enough : Bool) (l : Line) → (candidate enough l && wholly_invalid l) ≡ wholly_invalid l
unused_candidate enough l =
    ⊎_elim
    (λ (e : wholly_invalid l ≡ true). let no = invalid_all l.sectors e in rw (e, no.0, no.1))
    (λ (e : wholly_invalid l ≡ false). rw (e, and-false))
    (flag (wholly_invalid l))

module _ (S : Settings) (longs words marks : List ℕ) where
  candidate-bytes : (l : ℕ) (enough : Bool) → candidate enough (line_at S longs words marks l) ≡ candidate_at marks enough l
  candidate-bytes l enough = rw (waiting_bytes S longs words marks l, dirty-bytes S longs words marks l)

  module _ (b m : ℕ) (h : b + m ≤ lines_of S) where
    abbrev line : ℕ → Line
    line w = line_at S longs words marks (b + w)

    ways-are : take m (drop b (lines_in S longs words marks)) ≡ table m line
    ways-are = part_table (lines_of S) (line_at S longs words marks) b m fresh h

    pub way-is : (w : ℕ) → w < m → get_or (take m (drop b (lines_in S longs words marks))) w fresh ≡ line w
    way-is w k = ap (λ (ls : List Line). get_or ls w fresh) ways-are ∙ get_or_table m line w fresh k

    pub found-is : (a : ℕ) → first (holds a) (take m (drop b (lines_in S longs words marks))) ≡ found_in longs marks b m a
    found-is a =
        ap (first (holds a)) ways-are
        ∙ first_table (holds a) line m
        ∙ ap (first_below m) (fun_ext (λ w. holds-bytes S longs words marks (b + w) a))

    pub waiting-is : any has_reserved (take m (drop b (lines_in S longs words marks))) ≡ some m (λ w. waiting_at marks (b + w))
    waiting-is =
        ap (any has_reserved) ways-are
        ∙ any_table has_reserved m line
        ∙ some_same _ _ m (λ w h. waiting_bytes S longs words marks (b + w))

    -- under every rule, of what the rule chooses among the candidates
    victim-by : (R : Rule) (d : ℕ) {v : Option ℕ} → choice_by R (candidate (enough_dirty S d)) (table m line) ≡ v
        → victim R S d (take m (drop b (lines_in S longs words marks))) ≡ or_else (last_unused_in marks b m) v
    victim-by R d e =
        ap (victim R S d) ways-are
        ∙ ap (λ (v : Option ℕ). or_else v (choice_by R (candidate (enough_dirty S d)) (table m line)))
        (last_table (λ l. candidate (enough_dirty S d) l && wholly_invalid l) line m
        ∙ ap (last_below m) (fun_ext (λ w. unused_candidate (enough_dirty S d) (line w) ∙ unused_bytes S longs words marks (b + w))))
        ∙ ap (or_else (last_unused_in marks b m)) e

    -- the cycle by which the rule compares a line
    age-at : (l : ℕ) → age S (line_at S longs words marks l) ≡ get_or words (ages_from S + l) 0
    age-at l = ⊎_elim (λ e. rw e) (λ e. rw e) (flag (is_fifo S))

    victim-by-age : (d : ℕ) → victim (by_key (age S)) S d (take m (drop b (lines_in S longs words marks)))
        ≡ or_else (last_unused_in marks b m) (earliest_in words marks (ages_from S) b m (enough_dirty S d))
    victim-by-age d =
        victim-by (by_key (age S)) d
        (earliest_table (age S) (candidate (enough_dirty S d)) line m
        ∙ ap₂ (least_from m 0) (fun_ext (λ w. candidate-bytes (b + w) (enough_dirty S d))) (fun_ext (λ w. age-at (b + w))))

    victim_by_tree_lem : (t : ℕ) (d : ℕ) → power_to16 m ≡ true
        → victim (by_tree t) S d (take m (drop b (lines_in S longs words marks))) ≡ or_else (last_unused_in marks b m) (tree_in marks b m (enough_dirty S d) t)
    victim_by_tree_lem t d power =
        let able : Line → Bool = candidate (enough_dirty S d) in
        let long : length (table m line) ≡ m = length_table m line in
        victim-by (by_tree t) d
        (ap (λ (k : ℕ). tree_choice (λ w. get_or (map able (table m line)) w false) t (levels k)) long
        ∙ choice_same (λ w. get_or (map able (table m line)) w false) (λ w. candidate_at marks (enough_dirty S d) (b + w)) t (levels m)
        (λ w l. let l' : w < m = omega (arith, (levels_are m power).0) in
        flag_is able (table m line) w (omega arith) ∙ ap able (get_or_table m line w fresh l') ∙ candidate-bytes (b + w) (enough_dirty S d)))

  -- under the rule of set i, whose lines begin at b
  pub victim_is : (i b : ℕ) → b + S.ways ≤ lines_of S → (is_tree S ≡ true → power_to16 S.ways ≡ true) → (d : ℕ)
      → victim (pick (is_tree S) (by_tree (tree_at S words i)) (by_key (age S))) S d (take S.ways (drop b (lines_in S longs words marks)))
      ≡ victim_in S words marks i b (enough_dirty S d)
  victim_is i b h power d =
      ⊎_elim
      (λ (e : is_tree S ≡ true). rw e (victim_by_tree_lem b S.ways h (tree_at S words i) d (power e)))
      (λ (e : is_tree S ≡ false). rw e (victim-by-age b S.ways h d))
      (flag (is_tree S))
