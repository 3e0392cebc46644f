-- A turn, of what a part leaves and of what was read; the turns put together.
use Rattle.words.proofs.General.{ℕ, ◌+◌, ◌-◌, ◌%◌, ◌^◌, ◌≤◌, ◌<◌, zero-add, sub-zero, add_assoc, mod-lt, mod-eq_of_lt, mod-add-mod, arith, ◌≡◌, refl, sym, ap, subst, ◌∙◌, ⊎_elim}
use Rattle.words.proofs.General.{true, false, List, [], ◌++◌, append-nil, append_assoc, length, take, drop, length-drop, length-append, take-append-drop, length-take-le, take-take}
use Rattle.words.proofs.General.{drop-append-le, clash}
use Rattle.std.specs.Prelude.{Ok, Err, Result as Outcome, Option, Some}
use Rattle.encoding.proofs.Bridge.{is_tables}
use Rattle.model.proofs.Terms.{Tables, Lent, RunResult, run_from, Encodes, SoundSlices}
use Rattle.model.specs.declared.Settings.{Settings}
use Rattle.model.specs.declared.Stop.{Stop}
use Rattle.model.specs.declared.Stop.TheVariants as stop
use Rattle.running.proofs.Asked.{final, run_fits}
use Rattle.running.proofs.Parts.{run_resumed}
use Rattle.input.specs.Buffers.{Grown}
use Rattle.input.specs.declared.NoMore.{NoMore}
use Rattle.input.specs.declared.NoMore.TheVariants as no
use Rattle.input.specs.declared.Waiting.{Waiting}
use Rattle.streaming.specs.declared.work.Next.{Next}
use Rattle.streaming.specs.declared.work.Next.TheVariants as next
use Rattle.streaming.specs.declared.work.Work.{Work}
use Rattle.streaming.specs.declared.scope.Scope.{Scope}
use Rattle.streaming.specs.Scopes.{part_end}
use Rattle.streaming.specs.Works.{next_after_stop, reads_next, goes_next, read_of, read_by, Sure, Few, turns_of}
use Rattle.streaming.specs.Halts.{Claims, Before}
use Rattle.streaming.specs.Parts.{Ready, PartLeaves, Ran, ReadsOnce, GoesOver, Went, Came, PartTurn}
use Rattle.streaming.proofs.Stops.{full_eats}
use Rattle.streaming.proofs.Waiting.{by_stop, run_part, ran, part-behind, part_eats, before-part, few_before}

-- ---- what comes next

next_sure : (s : Option Stop) → (s ≡ Some stop.SliceLength → ⊥) → Sure (next_after_stop s) s
next_sure =
    by_stop (λ n m. (n ≡ Some stop.SliceLength → ⊥) → Sure m n) (λ h. final refl) (λ h. final refl) (λ h. tt)
    (λ n early roomy h. record { fitting = h; roomy = roomy })

-- what stops a run comes whatever follows
next_claims : (have : ℕ) (s : Option Stop) → Claims (next_after_stop s) s have
next_claims have = by_stop (λ n m. Claims m n have) tt tt tt (λ n early roomy. early)

-- a turn that ran what waited
fewer_ran : (have now left c : ℕ) → now + c ≡ have → (s : Option Stop) → (s ≡ Some stop.NoRoom → 0 < c) → turns_of (next_after_stop s) now left < turns_of next.Run have left
fewer_ran have now left c e =
    by_stop (λ n m. (n ≡ Some stop.NoRoom → 0 < c) → turns_of m now left < turns_of next.Run have left)
    (λ g. omega arith) (λ g. omega arith) (λ g. let h = g refl in omega arith) (λ n early roomy g. omega arith)

-- a run that goes on reads or runs
pub next_by : (n : Next) → goes_next n ≡ true → (reads_next n ≡ true → n ≡ next.Read) × (reads_next n ≡ false → n ≡ next.Run)
next_by next.Read g = (λ a. refl, λ a. clash refl a)
next_by next.Run g = (λ a. clash a refl, λ a. refl)
next_by next.Stopped g = clash g refl
next_by (next.Ended e) g = clash g refl
next_by next.Failed g = clash g refl

-- ---- the run of a part, with anything behind it

module _ (S : Settings) (room : ℕ) (p : List ℕ) (t : Tables) (k : Scope) where
  abbrev o : RunResult Tables
  o = ran S room p t k

  part-goes : GoesOver S room t p o.consumed o.events o.tables (drop o.consumed p)
  part-goes b other h =
      let a = run_part S room p t k in
      let x = drop (part_end k p) p in
      let e : a ++ (x ++ b) ≡ p ++ b = sym (append_assoc a x b) ∙ ap (λ (l : List ℕ). l ++ b) (part-behind S room p t k) in
      let i : o.consumed ≤ length p = let c = part_eats S room p t k in let l = ap length (sym (part-behind S room p t k)) ∙ length-append a x in omega arith in
      let d : drop (0 + o.consumed) (p ++ b) ≡ drop o.consumed p ++ b = ap (λ (m : ℕ). drop m (p ++ b)) (zero-add o.consumed) ∙ drop-append-le o.consumed p b i in
      let w = run_resumed S 0 room other a (x ++ b) t (omega arith) (omega arith) in
      (rw (e, d) at w)

-- ---- what a turn leaves where nothing ran

none_written : (n : ℕ) → n < 2 ^ 64 → n ≡ (n + 0) % 2 ^ 64
none_written n h = let e : n + 0 ≡ n = omega arith in rw e (sym (mod-eq_of_lt h))

module _ (S : Settings) (size : ℕ) where
  none-goes : (t : Tables) (p : List ℕ) → GoesOver S size t p 0 [] t p
  none-goes t p b room h = rw (sub-zero, zero-add)

  -- also where bytes came
  module _ {L : Lent} (p : List ℕ) {w r : Work} (small : w.written < 2 ^ 64) (consumed : r.consumed ≡ w.consumed) (written : r.written ≡ w.written) where
    idle-came : (bytes : List ℕ) → r.left + length bytes ≡ w.left → Came S size L p w r (p ++ bytes) L
    idle-came bytes counted = record {
      bytes = bytes;
      counted = counted;
      on = λ t i. record {
        eaten = 0;
        events = [];
        tables = t;
        are = i;
        consumed = omega arith;
        written = written ∙ none_written w.written small;
        goes = none-goes t (p ++ bytes);
      };
    }

    none_came : r.left ≡ w.left → Came S size L p w r p L
    none_came left = rw append-nil at (idle-came [] (omega arith))

-- ---- one after the other

module _ (S : Settings) (size : ℕ) where
  goes_then : (t u v : Tables) (s more q z : List ℕ) (m n : ℕ) (x y : List ℕ) → GoesOver S size t s m x u q → GoesOver S size u (q ++ more) n y v z
      → GoesOver S size t (s ++ more) (m + n) (x ++ y) v z
  goes_then t u v s more q z m n x y f g b room h =
      let l : length (x ++ y) ≡ length x + length y = length-append x y in
      let a = f (more ++ b) room (omega arith) in
      let c = g b (room - length x) (omega arith) in
      let e : room - length x - length y ≡ room - length (x ++ y) = omega arith in
      rw (append_assoc s more b, a, ← append_assoc q more b, c, e, add_assoc, append_assoc)

  went_then : {t : Tables} {s : List ℕ} {w v r : Work} {q z : List ℕ} {M N : Lent} (a : Went S size t s w v q M) (more : List ℕ) → Went S size a.tables (q ++ more) v r z N
      → Went S size t (s ++ more) w r z N
  went_then {t} {s} {w} {v} {r} {q} {z} a more b = record {
    eaten = a.eaten + b.eaten;
    events = a.events ++ b.events;
    tables = b.tables;
    are = b.are;
    consumed = let x = a.consumed in let y = b.consumed in omega arith;
    written = rw (b.written, a.written, mod-add-mod, length-append, ← add_assoc);
    goes = goes_then t a.tables b.tables s more q z a.eaten b.eaten a.events b.events a.goes b.goes;
  }

  pub came_then : {L M N : Lent} {p q z : List ℕ} {w v r : Work} → Came S size L p w v q M → Came S size M q v r z N → Came S size L p w r z N
  came_then {L} {M} {N} {p} {q} {z} {w} {v} {r} a b = record {
    bytes = a.bytes ++ b.bytes;
    counted = let l = length-append a.bytes b.bytes in let x = a.counted in let y = b.counted in omega arith;
    on = λ t i.
        let x = a.on t i in
        let y = went_then x b.bytes (b.on x.tables x.are) in
        subst (λ (s : List ℕ). Went S size t s w r z N) (append_assoc p a.bytes b.bytes) y;
  }

-- ---- a part that ran

module _ {S : Settings} {k : Scope} {p e : List ℕ} {L : Lent} {w r : Work} {buf f : List ℕ} {M : Lent} (x : Ran S k p e L w r buf f M)
    (held : SoundSlices S L) (space : 64 ≤ length e) (roomy : 64 ≤ length buf) (long : length p ≡ w.have) (counted : w.consumed + w.have + w.left < 2 ^ 64) where
  abbrev ran_on : RunResult Tables
  ran_on = run_from S 0 (length e) (take (part_end k p) p) held.tables

  l : PartLeaves S ran_on p e w r buf f M
  l = x.on held.tables held.are

  rest_long : length (drop ran_on.consumed p) ≡ r.have
  rest_long = let d = length-drop ran_on.consumed p in let h = l.have in omega arith

  ran_before : Before S k (next_after_stop ran_on.stop) ran_on.stop (drop ran_on.consumed p) ran_on.tables
  ran_before = before-part S (length e) p held.tables k ran_on.stop refl

  ran_same : (t : Tables) → Encodes S M t → ran_on.tables ≡ t
  ran_same t i = sym (is_tables S M ran_on.tables l.tables) ∙ is_tables S M t i

  -- the stop says what comes next, unless writing failed
  by_next : (P : Next → Type 0) → P (next_after_stop ran_on.stop) → P next.Failed → P r.next
  by_next P asked failed = ⊎_elim (λ z. rw z asked) (λ z. rw z failed) l.next

  ran_ready : Ready S k M buf r
  ran_ready = record {
    held = record { tables = ran_on.tables; are = l.tables };
    inside = x.inside;
    roomy = roomy;
    counted = let a = l.consumed in let b = l.have in let d = l.left in omega arith;
    small = rw l.written (mod-lt (w.written + length ran_on.events) (omega arith));
    sure = by_next (λ m. Sure m r.stop) (rw l.stop (next_sure ran_on.stop (run_fits S 0 (length e) (take (part_end k p) p) held.tables))) tt;
    few = by_next (λ m. Few m r.have) (rw (← rest_long) (few_before S (drop ran_on.consumed p) ran_on.tables k ran_on.stop ran_before)) tt;
    before = λ t i. by_next (λ m. Before S k m r.stop (take r.have buf) t) (rw (l.stop, l.rest, ← ran_same t i) ran_before) tt;
  }

  ran_fewer : turns_of r.next r.have r.left < turns_of next.Run w.have w.left
  ran_fewer =
      let full = full_eats S (length e) (take (part_end k p) p) held.tables space in
      by_next (λ m. turns_of m r.have r.left < turns_of next.Run w.have w.left)
      (rw l.left (fewer_ran w.have r.have w.left ran_on.consumed (l.have ∙ long) ran_on.stop full)) (omega arith)

  ran_came : Came S (length e) L p w r (take r.have buf) M
  ran_came = record {
    bytes = [];
    counted = let d = l.left in omega arith;
    on = λ t i.
        let y = x.on t i in
        let o = ran S (length e) p t k in
        record {
          eaten = o.consumed;
          events = o.events;
          tables = o.tables;
          are = y.tables;
          consumed = y.consumed;
          written = y.written;
          goes = rw (append-nil, y.rest) (part-goes S (length e) p t k);
        };
  }

  pub ran_turned : w.next ≡ next.Run → PartTurn S k (length e) L p w r buf M
  ran_turned q = record {
    ready = ran_ready;
    claims = by_next (λ m. Claims m r.stop r.have) (rw l.stop (next_claims r.have ran_on.stop)) tt;
    fewer = rw q ran_fewer;
    came = ran_came;
  }

-- ---- reading

module _ {S : Settings} {k : Scope} {L : Lent} {buf b : List ℕ} {w : Work} (y : Ready S k L buf w) (reads : w.next ≡ next.Read) (size : length b ≡ length buf)
    {g : Outcome Waiting NoMore} (grown : Grown buf w.have w.left g b) where
  -- the buffer is never full there
  never_full : g ≡ Err no.Full → ⊥
  never_full q = let h = rw q at grown.grows in let f = rw reads at y.few in let a = y.roomy in omega arith

  same_front : take w.have b ≡ take w.have buf
  same_front = grown.before

  -- nothing came, and m comes next, which is the last
  over_turned : (n : ℕ) {m : Next} {x : Work}
      → x ≡ record { have = w.have; left = w.left; consumed = w.consumed; written = w.written; stop = w.stop; next = m }
      → turns_of m w.have w.left ≡ 0 → Claims m w.stop w.have → Sure m w.stop → Few m w.have
      → ((t : Tables) → Encodes S L t → Before S k m w.stop (take w.have buf) t) → PartTurn S k n L (take w.have buf) w x b L
  over_turned n e last claims sure few before = rw e record {
    ready = record {
      held = y.held;
      inside = let h = y.inside in omega arith;
      roomy = let h = y.roomy in omega arith;
      counted = y.counted;
      small = y.small;
      sure = sure;
      few = few;
      before = λ t i. rw same_front (before t i);
    };
    claims = claims;
    fewer = rw reads (omega arith);
    came = rw same_front (none_came S n (take w.have buf) y.small refl refl refl);
  }

  -- more bytes came, and wait behind those that did
  module _ {m left : ℕ} (q : g ≡ Ok (record { have = m; left = left })) {v : Work} (v-is : v ≡ read_of w m left) where
    came-in : (w.have < m) × (m ≤ length buf) × (m + left ≡ w.have + w.left)
    came-in = rw q at grown.grows

    abbrev read_bytes : List ℕ
    read_bytes = drop w.have (take m b)

    fresh-behind : take w.have buf ++ read_bytes ≡ take m b
    fresh-behind = let h = came-in in rw (← same_front, ← take-take w.have m b (omega arith), take-append-drop)

    fresh-long : length read_bytes + w.have ≡ m
    fresh-long = let h = came-in in let n = length-take-le m b (omega arith) in let d = length-drop w.have (take m b) in omega arith

    came-turned : (n : ℕ) → PartTurn S k n L (take w.have buf) w v b L
    came-turned n =
        let h = came-in in
        let f = fresh-long in
        rw v-is record {
          ready = record {
            held = y.held;
            inside = omega arith;
            roomy = let a = y.roomy in omega arith;
            counted = let c = y.counted in omega arith;
            small = y.small;
            sure = tt;
            few = tt;
            before = λ t i. tt;
          };
          claims = tt;
          fewer = rw reads (omega arith);
          came = rw fresh-behind at (idle-came S n {L = L} (take w.have buf) {w = w} {r = read_of w m left} y.small refl refl read_bytes (omega arith));
        }

pub read-turned : {S : Settings} {k : Scope} {L : Lent} {buf b : List ℕ} {w r : Work} → Ready S k L buf w → w.next ≡ next.Read → length b ≡ length buf → (n : ℕ)
    → ReadsOnce buf w r b → PartTurn S k n L (take w.have buf) w r b L
read-turned {S} {k} {L} {buf} {b} {w} {r} y reads size n x = by x.said x.grown x.is
  where
    by : (g : Outcome Waiting NoMore) → Grown buf w.have w.left g b → r ≡ read_by w g → PartTurn S k n L (take w.have buf) w r b L
    by (Ok v) grown e = came-turned y reads size grown refl e n
    by (Err (no.End end)) grown e = over_turned y reads size grown n e refl grown.grows (rw reads at y.sure) tt (λ t i. rw reads at (y.before t i))
    by (Err no.Full) grown e = absurd (never_full y reads size grown refl)
    by (Err (no.Failed why)) grown e = over_turned y reads size grown n e refl tt tt tt (λ t i. tt)

-- ---- turn after turn

pub start_came : {S : Settings} {k : Scope} {L : Lent} {buf : List ℕ} {w : Work} (size : ℕ) → Ready S k L buf w → Came S size L (take w.have buf) w w (take w.have buf) L
start_came {S} {k} {L} {buf} {w} size y = none_came S size (take w.have buf) y.small refl refl refl

pub next_came : {S : Settings} {k : Scope} {size n : ℕ} {L M N : Lent} {p q buf : List ℕ} {w v r : Work} → Came S size L p w v q M → n ≡ size → PartTurn S k n M q v r buf N
    → Came S size L p w r (take r.have buf) N
next_came {S} {k} {size} {n} {L} {M} {N} {p} {q} {buf} {w} {v} {r} a e t = came_then S size a (subst (λ (m : ℕ). Came S m M q v r (take r.have buf) N) e t.came)
