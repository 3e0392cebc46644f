-- Where the last record of some bytes begins, and how much of them is run.
use Rattle.std.specs.Prelude.{ℕ, zero, suc, List, [], ◌∷◌, length, nat_lt}
use Rattle.words.specs.Words.{pick}
use Rattle.model.specs.Records.{is_command, length_of}
use Rattle.streaming.specs.declared.scope.Scope.{Scope}
use Rattle.streaming.specs.declared.scope.Scope.TheVariants as scope

-- the bytes before the last record, whole or cut short, behind n bytes that are passed over: the body of a record before. At a kind that is
-- no command's the runner stops, whatever follows: there all of the bytes are the runner's
unfoldable pub before_last : ℕ → List ℕ → ℕ
before_last n [] = 0
before_last (suc n) (b ∷ bs) = suc (before_last n bs)
before_last zero (k ∷ bs) = pick (is_command k) (pick (nat_lt (length_of k) (length bs)) (suc (before_last (length_of k) bs)) 0) (suc (length bs))

-- what is run ends there
abbrev pub part_end : Scope → List ℕ → ℕ
part_end scope.All s = length s
part_end scope.BeforeLast s = before_last 0 s
