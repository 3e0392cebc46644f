-- The definitions at work on small logs, by computation.
use Rattle.std.specs.Prelude.{None, Some, Ok, Err}
use Rattle.words.proofs.General.{ℕ, ◌≡◌, refl, List, [], ◌∷◌, ◌++◌, map}
use Rattle.model.specs.RecordsOf as records
use Rattle.comparing.specs.declared.Difference.{Difference}
use Rattle.comparing.specs.declared.Log.{Log}
use Rattle.comparing.specs.declared.Log.TheVariants as log
use Rattle.comparing.specs.declared.Wrong.{Wrong}
use Rattle.comparing.specs.declared.Wrong.TheVariants as wrong
use Rattle.comparing.specs.Kinds.{starts_group, is_event}
use Rattle.comparing.specs.Groups.{record_end, record_past, end_from, group_end, groups_from, groups, group_side}
use Rattle.comparing.specs.Checks.{wrong_at, scanned_from, scanned, checked}
use Rattle.comparing.specs.Pairs.{differs, Answer, same_pair, first_of, first_difference, compared}

-- a pair that differs; a log that is refused
pair : ℕ → ℕ → ℕ → ℕ → ℕ → Difference
pair n p l q m = differs n (record { place = p; size = l }) (record { place = q; size = m })

refusal : Log → Wrong → ℕ → Answer
refusal l w at = Err (record { log = l; fault = record { wrong = w; place = at } })

-- a tick; a refusal; a tick and two tickets released
tick : List ℕ
tick = 0x18 ∷ []

refused : ℕ → List ℕ
refused n = 0x11 ∷ n ∷ []

released : ℕ → List ℕ
released n = 0x14 ∷ n ∷ 0 ∷ 0 ∷ 0 ∷ []

-- released records belong to the group before them
three_groups : groups (refused 5 ++ (tick ++ (released 7 ++ (released 8 ++ tick)))) ≡ record { place = 0; size = 2 } ∷ record { place = 2; size = 11 } ∷ record { place = 13; size = 1 } ∷ []
unfolding groups groups_from group_end end_from record_past record_end starts_group records.length_of tick refused released
three_groups = refl

no-groups : groups [] ≡ []
unfolding groups groups_from
no-groups = refl

-- the pair of number 1 differs; asked from 2, the one of number 2, whose second side has run out; asked from 3, none
asked_with : map (compared (tick ++ (refused 5 ++ tick)) (tick ++ refused 6)) (0 ∷ 2 ∷ 3 ∷ []) ≡ Ok (Some (pair 1 1 2 1 2)) ∷ Ok (Some (pair 2 3 1 3 0)) ∷ Ok None ∷ []
unfolding pair compared checked scanned scanned_from wrong_at first_difference first_of same_pair group_side groups groups_from group_end end_from record_past record_end starts_group is_event records.length_of tick refused
asked_with = refl

both-empty : compared [] [] 0 ≡ Ok None
unfolding pair compared checked scanned scanned_from first_difference first_of groups groups_from
both-empty = refl

-- a command's kind, 3 or 1 cut short, is 14 at its place; an event cut short is 15; the first log before the second; 17 only after the
-- last record, and still before the second log
told_of_both : List Answer
told_of_both =
    compared (tick ++ (3 ∷ [])) (9 ∷ []) 0
    ∷ compared tick (tick ++ (1 ∷ 0 ∷ [])) 0
    ∷ compared tick (tick ++ (0x14 ∷ 7 ∷ [])) 0
    ∷ compared (released 7 ++ tick) (9 ∷ []) 0
    ∷ compared (released 7 ++ (9 ∷ [])) [] 0
    ∷ []

refusals : told_of_both ≡ refusal log.First wrong.UnknownKind 1
    ∷ refusal log.Second wrong.UnknownKind 1
    ∷ refusal log.Second wrong.CutShort 1
    ∷ refusal log.First wrong.InsideGroup 0
    ∷ refusal log.First wrong.UnknownKind 5
    ∷ []
unfolding refusal told_of_both compared checked scanned scanned_from wrong_at record_past record_end starts_group is_event records.length_of tick released
refusals = refl
