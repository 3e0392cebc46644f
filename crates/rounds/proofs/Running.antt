-- The two loops, over the rounds and over the struck rounds: what is left, run from here, gives what all of them give.
use Rattle.std.specs.Prelude.{Ok}
use Rattle.std.specs.Int.{from_bool}
use Rattle.words.proofs.General.{ℕ, suc, ◌+◌, ◌-◌, ◌*◌, ◌≤◌, ◌<◌, zero-add, add-one, arith, ◌≡◌, refl, sym, subst, ◌∙◌, Bool, true, false, List, [], ◌∷◌, ◌++◌, map, append-nil, append_assoc}
use Rattle.words.proofs.General.{map-append, length, drop, get_or, set, length-append, length-map, length-set, sets-eq, drop-cons, drop-length, eqb}
use Rattle.model.proofs.Terms.{Lent, bit, round_bytes, Turn, SeenCalls, accepts, Course, drain, rounds, struck, seen_calls, SoundSlices}
use Rattle.model.specs.RecordsOf as records
use Rattle.model.specs.declared.Settings.{Settings}
use Rattle.model.specs.declared.Access.{Access}
use Rattle.model.specs.declared.Event.{Event}
use Rattle.records.specs.Stores.{Laid}
use Rattle.records.proofs.Stores.{laid_then}
use Rattle.rounds.specs.declared.Offer.{Offer}
use Rattle.turns.specs.Parts.{Noted}
use Rattle.rounds.specs.Demand3.{rounds_shown, ran_to, flags_marked}
use Rattle.rounds.specs.Parts.{Sees, round_turn, SeesRound, struck_turn, SeesStruck, RunsOn, StrikesOn}
use Rattle.turns.proofs.Noting.{noted_then}
use Rattle.rounds.proofs.Written.{noted-written}

-- ---- the caller's buffers in the end

abbrev flags_of : List (List Event) → List ℕ
flags_of os = map bit (map accepts os)

flags_length : (os : List (List Event)) → length (flags_of os) ≡ length os
flags_length os = rw (length-map, length-map)

flags_append : (os ps : List (List Event)) → flags_of (os ++ ps) ≡ flags_of os ++ flags_of ps
flags_append os ps = rw (map-append, map-append)

from_bit : (b : Bool) → from_bool b ≡ bit b
from_bit true = refl
from_bit false = refl

-- ---- where both loops stand

-- behind i of n rounds, whose events es are written in `out` bytes, on slices that are sound and as long as at first
pub record Stands (S : Settings) (n : ℕ) (L₀ : Lent) (e₀ : List ℕ) (es : List Event) (L : Lent) (e : List ℕ) (i out : ℕ) : Type 0 where
  pub few : i ≤ n
  pub short : out ≤ round_bytes * i
  pub size : length e ≡ length e₀
  pub longs : length L.longs ≡ length L₀.longs
  pub words : length L.words ≡ length L₀.words
  pub marks : length L.marks ≡ length L₀.marks
  pub held : SoundSlices S L
  pub bytes : Noted e₀ 0 es out e

module _ (S : Settings) (n : ℕ) where
  stands_first : {L : Lent} → SoundSlices S L → (e : List ℕ) → Stands S n L e [] L e 0 0
  unfolding records.log_bytes
  stands_first h e = record {
    few = omega arith;
    short = omega arith;
    size = refl;
    longs = refl;
    words = refl;
    marks = refl;
    held = h;
    bytes = record { next = refl; slice = refl; fits = tt };
  }

  module _ {L₀ : Lent} {e₀ : List ℕ} {es : List Event} {L : Lent} {e : List ℕ} {i out : ℕ} (g : Stands S n L₀ e₀ es L e i out) where
    stands-again : i < n → {a : Turn Lent} {w : ℕ} {f : List ℕ} {M : Lent} → Sees S a e out w f M → w ≤ out + round_bytes
        → length f ≡ length e → length M.longs ≡ length L.longs → length M.words ≡ length L.words → length M.marks ≡ length L.marks
        → Stands S n L₀ e₀ (es ++ a.events) M f (i + 1) w
    stands-again more {a} s short size longs words marks = record {
      few = omega arith;
      short = omega (arith, g.short);
      size = size ∙ g.size;
      longs = longs ∙ g.longs;
      words = words ∙ g.words;
      marks = marks ∙ g.marks;
      held = s.held;
      bytes = noted_then es a.events g.bytes s.bytes;
    }

    stands-shown : round_bytes * n ≤ length e₀ → rounds_shown (Ok record { rounds = i; written = out }) L e ≡ ran_to i record { events = es; left = L } e₀
    stands-shown room =
        let (count, slice, back) = noted-written es e₀ g.bytes (omega (arith, g.few, g.short)) in
        rw (back, count, slice)

-- ---- the rounds

abbrev behind_course : List Event → List (List Event) → Course Lent → Course Lent
behind_course es os r = record { turn = record { events = es ++ r.turn.events; left = r.turn.left }; offers = os ++ r.offers }

module _ (S : Settings) (x : Access) (n : ℕ) where
  abbrev C : SeenCalls Lent
  C = seen_calls S x

  pub record RoundsRun (L₀ : Lent) (fl₀ e₀ : List ℕ) (L : Lent) (fl e : List ℕ) (i out : ℕ) : Type 0 where
    pub events : List Event
    pub stands : Stands S n L₀ e₀ events L e i out
    pub flags : length fl ≡ length fl₀
    pub offers : List (List Event)
    pub made : length offers ≡ i
    pub rest : rounds C n L₀ ≡ behind_course events offers (rounds C (n - i) L)
    pub flagged : Laid fl₀ 0 i (flags_of offers) i fl

  pub runs_first : (L : Lent) → SoundSlices S L → (fl e : List ℕ) → RoundsRun L fl e L fl e 0 0
  runs_first L h fl e = record {
    events = [];
    stands = stands_first S n h e;
    flags = refl;
    offers = [];
    made = refl;
    rest = let q : n - 0 ≡ n = omega arith in rw q;
    flagged = record { next = refl; slice = refl };
  }

  module _ {L₀ : Lent} {fl₀ e₀ : List ℕ} (flagroom : n ≤ length fl₀) (room : round_bytes * n ≤ length e₀) where
    -- all that was run
    ended : {es : List Event} {L : Lent} {fl e : List ℕ} {i out : ℕ} → Stands S n L₀ e₀ es L e i out → (os : List (List Event)) → length os ≡ i → Laid fl₀ 0 i (flags_of os) i fl
        → rounds C n L₀ ≡ record { turn = record { events = es; left = L }; offers = os } → RunsOn S x n L₀ fl₀ e₀ record { rounds = i; written = out } L fl e
    ended g os made flagged all =
        let few = g.few in
        let size = flags_length os in
        record {
          shows = rw (all, made) (stands-shown S n g room);
          flags = rw all (flagged.slice ∙ sets-eq (flags_of os) fl₀ 0 (omega arith) ∙ rw (zero-add, size));
        }

    module _ {L : Lent} {fl e : List ℕ} {i out : ℕ} (g : RoundsRun L₀ fl₀ e₀ L fl e i out) where
      pub runs-end : n ≤ i → RunsOn S x n L₀ fl₀ e₀ record { rounds = n; written = out } L fl e
      unfolding rounds
      runs-end h =
          let z : n - i ≡ 0 = omega arith in
          let all : n ≡ i = omega (arith, g.stands.few) in
          let run = ended g.stands g.offers g.made g.flagged (g.rest ∙ rw (z, append-nil, append-nil)) in
          subst (λ (k : ℕ). RunsOn S x n L₀ fl₀ e₀ record { rounds = k; written = out } L fl e) (sym all) run

      module _ (more : i < n) {r : Offer} {f : List ℕ} {M : Lent} (s : SeesRound S x L e out r f M) {v : ℕ} (flag : v ≡ from_bool r.taken)
          (size : length f ≡ length e) (longs : length M.longs ≡ length L.longs) (words : length M.words ≡ length L.words)
          (marks : length M.marks ≡ length L.marks) where
        abbrev a : Turn Lent
        a = round_turn C L

        abbrev offered : List (List Event)
        offered = (C.offers (drain C L).left).events ∷ []

        stood : Stands S n L₀ e₀ (g.events ++ a.events) M f (i + 1) r.written
        stood = stands-again S n g.stands more s.on s.short size longs words marks

        stored : Laid fl₀ 0 (i + 1) (flags_of (g.offers ++ offered)) (i + 1) (set fl i v)
        stored =
            rw (flags_append g.offers offered, ← s.taken, ← from_bit r.taken, ← flag)
            (laid_then g.flagged (flags_length g.offers ∙ g.made) record { next = refl; slice = refl })

        many : length (g.offers ++ offered) ≡ i + 1
        many = rw length-append (let m = g.made in omega arith)

        next : n - i ≡ suc (n - (i + 1))
        next = omega arith

        pub runs-accepted : r.taken ≡ true → RunsOn S x n L₀ fl₀ e₀ record { rounds = i + 1; written = r.written } M (set fl i v) f
        unfolding rounds
        runs-accepted taken = ended stood (g.offers ++ offered) many stored (g.rest ∙ rw (next, sym s.taken ∙ taken, append-nil, s.on.left))

        pub runs-again : r.taken ≡ false → RoundsRun L₀ fl₀ e₀ M (set fl i v) f (i + 1) r.written
        unfolding rounds
        runs-again taken = record {
          events = g.events ++ a.events;
          stands = stood;
          flags = length-set fl i v ∙ g.flags;
          offers = g.offers ++ offered;
          made = many;
          rest = g.rest ∙ rw (next, sym s.taken ∙ taken, ← s.on.left) (simp append_assoc);
          flagged = stored;
        }

-- ---- the struck rounds

module _ (S : Settings) (x : Access) (fl : List ℕ) where
  abbrev D : SeenCalls Lent
  D = seen_calls S x

  pub record Strikes (L₀ : Lent) (e₀ : List ℕ) (L : Lent) (e : List ℕ) (i out : ℕ) : Type 0 where
    pub events : List Event
    pub stands : Stands S (length fl) L₀ e₀ events L e i out
    pub rest : struck D (flags_marked fl) L₀
        ≡ record { events = events ++ (struck D (flags_marked (drop i fl)) L).events; left = (struck D (flags_marked (drop i fl)) L).left }

  pub strikes_first : (L : Lent) → SoundSlices S L → (e : List ℕ) → Strikes L e L e 0 0
  strikes_first L h e = record { events = []; stands = stands_first S (length fl) h e; rest = refl }

  module _ {L₀ : Lent} {e₀ : List ℕ} {L : Lent} {e : List ℕ} {i out : ℕ} (g : Strikes L₀ e₀ L e i out) where
    pub strikes-end : length fl ≤ i → round_bytes * length fl ≤ length e₀ → StrikesOn S x L₀ fl e₀ record { rounds = length fl; written = out } L e
    unfolding struck
    strikes-end h room =
        let z : i ≡ length fl = omega (arith, g.stands.few) in
        let all : struck D (flags_marked fl) L₀ ≡ record { events = g.events; left = L } = g.rest ∙ rw (z, drop-length, append-nil) in
        let shown = stands-shown S (length fl) g.stands room in
        record { shows = rw all (rw z at shown) }

    pub strikes-again : i < length fl → {w : ℕ} {f : List ℕ} {M : Lent} → SeesStruck S x (eqb (get_or fl i 0) 1) L e out w f M
        → length f ≡ length e → length M.longs ≡ length L.longs → length M.words ≡ length L.words → length M.marks ≡ length L.marks
        → Strikes L₀ e₀ M f (i + 1) w
    unfolding struck
    strikes-again more s size longs words marks = record {
      events = g.events ++ (struck_turn D (eqb (get_or fl i 0) 1) L).events;
      stands = stands-again S (length fl) g.stands more s.on s.short size longs words marks;
      rest = g.rest ∙ rw (add-one, drop-cons fl i 0 more, s.on.left) (simp append_assoc);
    }
