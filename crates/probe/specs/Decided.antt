-- What `decide` promises: the Place of "Probe and victim" that its value stands for, and where a way that it gives lies.
use Rattle.std.specs.Prelude.{◌≡◌, ℕ, ◌<◌, List, [], ◌∷◌, get_or, Option, Some, None, Result, Ok, Err}
use Rattle.words.specs.Words.{pick}
use Rattle.model.specs.Range.{lines_of, is_tree}
use Rattle.model.specs.Address.{address_of, block_of, set_index, line_number}
use Rattle.model.specs.Tables.{Line, writing, fresh, emptied}
use Rattle.model.specs.Lent.{lines_in, dirty_count_at, tree_at}
use Rattle.model.specs.Probe.{Place, no, at, ways_of, probe, Rule, by_key, by_tree, age}
use Rattle.model.specs.declared.Settings.{Settings}
use Rattle.model.specs.declared.Queued.{Queued}
use Rattle.model.specs.declared.Access.{Access}
use Rattle.model.specs.declared.Refusal.{Refusal}
use Rattle.probe.specs.declared.Meeting.{Meeting}
use Rattle.probe.specs.declared.Meeting.TheVariants.{Met, Taken}
use Rattle.probe.specs.declared.Back.{Back}
use Rattle.probe.specs.declared.Decision.{Decision}

-- a write-back, if there is one, as the queue has it
abbrev pub listed : Option Back → List Queued
listed (Some b) = writing b.block b.masks ∷ []
listed None = []

-- the write-back of a decision
abbrev pub backs_of : Decision → List Queued
backs_of d = listed d.back

-- the ways of the set of address a, and what is decided of them
abbrev pub place_for : Meeting → List Line → ℕ → Decision → Place
place_for Met ways a d = at record { way = d.way; line = get_or ways d.way fresh; answer = d.answer; backs = backs_of d }
place_for Taken ways a d =
    at record {
      way = d.way;
      line = emptied (block_of a);
      answer = d.answer;
      backs = backs_of d;
    }

abbrev pub place_is : List Line → ℕ → Result Decision Refusal → Place
place_is ways a (Ok d) = place_for d.meeting ways a d
place_is ways a (Err n) = no n

-- the lines of the whole cache in the slices
abbrev pub lines_held : Settings → List ℕ → List ℕ → List ℕ → List Line
lines_held S longs words marks = lines_in S longs words marks

-- the rule of an address's set, by the tree in the slices
abbrev pub rule_held : Settings → List ℕ → ℕ → Rule
rule_held S words a = pick (is_tree S) (by_tree (tree_at S words (set_index S a))) (by_key (age S))

-- where a decision lies
pub record Stands (S : Settings) (x : Access) (d : Decision) : Type 0 where
  pub way : d.way < S.ways
  pub line : d.line ≡ line_number S (address_of x) d.way
  pub below : d.line < lines_of S

pub record Decided (S : Settings) (longs words marks : List ℕ) (x : Access) (r : Result Decision Refusal) : Type 0 where
  pub place : place_is (ways_of S (lines_held S longs words marks) (address_of x)) (address_of x) r
      ≡ probe (rule_held S words (address_of x)) S (dirty_count_at S words) (ways_of S (lines_held S longs words marks) (address_of x)) x
  pub stands : (d : Decision) → r ≡ Ok d → Stands S x d
