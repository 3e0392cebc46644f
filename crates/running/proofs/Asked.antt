-- The lengths that a first record asks for: how large they get, and that slices so long stop nothing.
use Rattle.words.proofs.General.{ℕ, zero, suc, ◌≤◌, arith, ◌≡◌, refl, ◌∙◌, Bool, true, false, List, [], ◌∷◌, length, ltb, eq-eqb, pick, clash, by_flag, pick_both}
use Rattle.model.proofs.Terms.{in_range, Tables, longs_length, words_length, marks_length, Lent, length_of, event_room, settings_stop, later_stop, goes_on, RunResult, run_from}
use Rattle.model.specs.RunnerOf as runner
use Rattle.model.specs.declared.Settings.{Settings}
use Rattle.model.specs.declared.Stop.{Stop}
use Rattle.model.specs.declared.Stop.TheVariants.{SettingOutOfRange, SliceLength, NotSound, OutOfPlace, UnknownKind, CutShort, NoRoom}
use Rattle.model.proofs.Fits.{ranged, sets_most}
use Rattle.layout.proofs.OfRange.{tickets_most}
use Rattle.running.specs.declared.Lengths.{Lengths}
use Rattle.std.specs.Prelude.{Ok, Err, Option, Some, None}
use Rattle.running.specs.Begin.{Opening, first_head, first_record, begun_on, beginning}
use Rattle.running.proofs.First.{begun_stopped, first_begins}
use Rattle.running.proofs.Running.{by_record}
use Rattle.running.specs.Lengths.{no_lengths, lengths_of, lengths_asked, lengths_for, Long, Final}

-- ---- what the function answers

abbrev pub lengths_in : Settings → Lengths
lengths_in S = record { longs = longs_length S; words = words_length S; marks = marks_length S }

pub lengths_by : {v : Bool} (S : Settings) {n : Lengths} → n ≡ pick v (lengths_in S) no_lengths → in_range S ≡ v → n ≡ lengths_of S
unfolding lengths_of
lengths_by S e h = rw (h, e)

-- ---- how large they get: 1,024 lines, 64 entries of 8 readers, 64 places

pub record Most (n : Lengths) : Type 0 where
  pub longs : n.longs ≤ 1152
  pub words : n.words ≤ 7170
  pub marks : n.marks ≤ 8384

most_of : (S : Settings) → Most (lengths_of S)
unfolding lengths_of
most_of S =
    by_flag Most (in_range S) _ _
    (λ z. let a = ranged S z in let t = tickets_most S z in let s = sets_most S z in record { longs = omega arith; words = omega arith; marks = omega arith })
    (λ z. record { longs = omega arith; words = omega arith; marks = omega arith })

pub asked_most : (x : Opening) → Most (lengths_asked x)
asked_most (Ok (S, next)) = most_of S
asked_most (Err n) = record { longs = omega arith; words = omega arith; marks = omega arith }

-- ---- slices of these lengths are of no other length, and the first record asks for no event room

abbrev pub neither : Option Stop → Bool
neither None = true
neither (Some SettingOutOfRange) = true
neither (Some SliceLength) = false
neither (Some NotSound) = true
neither (Some OutOfPlace) = true
neither (Some UnknownKind) = true
neither (Some CutShort) = true
neither (Some NoRoom) = false

pub final : {n : Option Stop} → neither n ≡ true → Final n
final {n} h = record { fitting = λ q. clash (rw q at h) refl; roomy = λ q. clash (rw q at h) refl }

settings_fit : (S : Settings) (L : Lent) → Long L (lengths_of S) → Final (settings_stop S L)
unfolding lengths_of
settings_fit S L =
    by_flag (λ (n : Lengths). Long L n → Final (settings_stop S L)) (in_range S) _ _
    (λ z l.
    let a = eq-eqb (length L.longs) (longs_length S) l.longs in
    let b = eq-eqb (length L.words) (words_length S) l.words in
    let c = eq-eqb (length L.marks) (marks_length S) l.marks in
    rw (z, a, b, c) (final refl))
    (λ z l. rw z (final refl))

-- what the head stops with
head_fits : (k : ℕ) (rest : List ℕ) → Final (first_head k rest)
head_fits k rest = by_record Final k rest (λ c. final refl) (λ c w. final refl) (λ c w z. final refl) (λ c w z. final refl)

record_fits : (s : List ℕ) (n : Option Stop) → first_record s ≡ Err n → Final n
unfolding first_record
record_fits [] n q = let e : None ≡ n = cc in rw (← e) (final refl)
record_fits (k ∷ bs) n q =
    by_flag (λ (x : Opening). x ≡ Err n → Final n) (goes_on (first_head k bs)) _ _
    (λ z p. let y : ◌≡◌ {A = ℕ} 0 1 = cc in absurd (omega arith))
    (λ z p. let e : first_head k bs ≡ n = cc in rw (← e) (head_fits k bs))
    q

begun_fits : (L : Lent) (x : Opening) (n : Option Stop) → ((m : Option Stop) → x ≡ Err m → Final m) → Long L (lengths_asked x) → begun_on L x ≡ Err n → Final n
begun_fits L (Err m) n h l q = let e : m ≡ n = cc in rw (← e) (h m refl)
begun_fits L (Ok (S, next)) n h l q = let (z, e) = begun_stopped (goes_on (settings_stop S L)) S next q in rw (← e) (settings_fit S L l)

-- where the lengths asked for are lent
pub asked_stops : (L : Lent) (s : List ℕ) (n : Option Stop) → Long L (lengths_for s) → beginning L s ≡ Err n → Final n
asked_stops L s n l q = begun_fits L (first_record s) n (record_fits s) l (first_begins L s ∙ q)

-- ---- stop 2 comes from the first record alone

later_fits : (room k : ℕ) (rest : List ℕ) → later_stop room k rest ≡ Some SliceLength → ⊥
unfolding runner.later_stop
later_fits room k rest =
    by_record Fits k rest (λ c. no refl) (λ c w. no refl) (λ c w z. no refl)
    (λ c w z. pick_both Fits (ltb room event_room) (λ q. let y : ◌≡◌ {A = ℕ} 0 1 = cc in omega arith) (no refl))
  where
    Fits : Option Stop → Type 0
    Fits n = n ≡ Some SliceLength → ⊥

    no : {n : Option Stop} → neither n ≡ true → Fits n
    no h = (final h).fitting

pub run_fits : (S : Settings) (n room : ℕ) (s : List ℕ) (t : Tables) → (run_from S n room s t).stop ≡ Some SliceLength → ⊥
unfolding runner.run_from
run_fits S n room [] t = (final {n = None} refl).fitting
run_fits S (suc n) room (b ∷ s) t = run_fits S n room s t
run_fits S zero room (k ∷ s) t =
    by_flag (λ (o : RunResult Tables). o.stop ≡ Some SliceLength → ⊥) (goes_on (later_stop room k s)) _ _ (λ z. run_fits S (length_of k) _ s _) (λ z. later_fits room k s)
