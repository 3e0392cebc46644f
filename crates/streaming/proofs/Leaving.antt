-- What a part leaves, of what the runner and the buffer promise.
use Rattle.words.proofs.General.{ℕ, ◌+◌, ◌-◌, ◌%◌, ◌^◌, ◌≤◌, zero-add, sub-zero, arith, ◌≡◌, refl, sym, ap, subst, ◌∙◌, ◌⊎◌, inl, inr, List, ◌++◌, length, take, drop, length-drop}
use Rattle.words.proofs.General.{length-take-le, take-take, take-add, take_at, drop_at, le-leb}
use Rattle.model.proofs.Terms.{Tables, Lent, lent, run_from, Encodes}
use Rattle.model.specs.declared.Settings.{Settings}
use Rattle.model.specs.declared.Ran.{Ran as Run}
use Rattle.running.specs.Resume.{rest_from, Resumes}
use Rattle.running.specs.declared.Lengths.{Lengths}
use Rattle.running.specs.Begin.{Opening, first_record}
use Rattle.running.specs.Lengths.{lengths_asked, lengths_for, Long}
use Rattle.running.proofs.Asked.{Most, asked_most}
use Rattle.input.specs.Buffers.{carried, carried_count}
use Rattle.streaming.specs.declared.work.Next.{Next}
use Rattle.streaming.specs.declared.work.Next.TheVariants as next
use Rattle.streaming.specs.declared.work.Work.{Work}
use Rattle.streaming.specs.declared.scope.Scope.{Scope}
use Rattle.streaming.specs.Scopes.{part_end}
use Rattle.streaming.specs.Works.{next_after_stop, failed_of, behind_of}
use Rattle.streaming.specs.Parts.{Ran}

-- ---- the rest of a part, at the front of the buffer

drop_front : (c n : ℕ) (l : List ℕ) → c ≤ n → n ≤ length l → drop c (take n l) ≡ take (n - c) (drop c l)
drop_front c n l h k =
    let e : n ≡ c + (n - c) = omega arith in
    let t : take n l ≡ take c l ++ take (n - c) (drop c l) = ap (λ (m : ℕ). take m l) e ∙ take-add c (n - c) l in
    rw t (drop_at (take c l) _ c (length-take-le c l (omega arith)))

module _ (l : List ℕ) (c n : ℕ) (h : c ≤ n) (k : n ≤ length l) where
  pub carried_rest : take (carried_count l c n) (carried l c n) ≡ drop c (take n l)
  unfolding carried carried_count
  carried_rest =
      let x = take (n - c) (drop c l) in
      let e : length x ≡ n - c = length-take-le (n - c) (drop c l) (omega (arith, length-drop c l)) in
      let p : take (n - c) (x ++ drop (n - c) l) ≡ x = take_at x (drop (n - c) l) (n - c) e in
      rw (le-leb c n h, le-leb n (length l) k) (p ∙ sym (drop_front c n l h k))

  pub carried_is : carried_count l c n ≡ n - c
  unfolding carried_count
  carried_is = rw (le-leb c n h, le-leb n (length l) k)

-- ---- a part

module _ {S : Settings} (k : Scope) (buf : List ℕ) (n : ℕ) (inside : n ≤ length buf) {e : List ℕ} {L : Lent} {ran : Run} {f : List ℕ} {M : Lent}
    {q : List ℕ} (q-is : q ≡ take n buf) {end : ℕ} (end_is : end ≡ part_end k q) (short : end ≤ length q)
    {p : List ℕ} (p-is : p ≡ take end buf) (v : Resumes S (rest_from S p 0 0 e) p 0 0 e L ran f M) where
  abbrev waiting : List ℕ
  waiting = take n buf

  abbrev run_part : List ℕ
  run_part = take (part_end k waiting) waiting

  ends : end ≤ length waiting
  ends = rw (← q-is) short

  part_is : p ≡ run_part
  part_is = p-is ∙ sym (take-take end n buf (let w = length-take-le n buf inside in omega (arith, ends))) ∙ ap (λ (m : ℕ). take m waiting) (end_is ∙ ap (part_end k) q-is)

  u : Resumes S (rest_from S run_part 0 0 e) run_part 0 0 e L ran f M
  u = subst (λ (x : List ℕ). Resumes S (rest_from S x 0 0 e) x 0 0 e L ran f M) part_is v

  pub part-within : ran.consumed ≤ n
  part-within =
      let w = length-take-le n buf inside in
      let l : length p ≡ end = ap length p-is ∙ length-take-le end buf (let h = ends in omega arith) in
      omega (arith, v.stands.inside, ends)

  module _ {b : List ℕ} {have : ℕ} (count : have ≡ carried_count buf ran.consumed n) (moved : b ≡ carried buf ran.consumed n) (size : length b ≡ length buf) where
    left : take have b ≡ drop ran.consumed (take n buf)
    left = rw (count, moved) (carried_rest buf ran.consumed n part-within inside)

    waits : have ≡ n - ran.consumed
    waits = count ∙ carried_is buf ran.consumed n part-within inside

    module _ (t : Tables) (i : Encodes S L t) where
      stops : ran.stop ≡ (run_from S 0 (length e) run_part t).stop
      stops = rw sub-zero at (u.on t i).stop

      eats : ran.consumed ≡ (run_from S 0 (length e) run_part t).consumed
      eats = rw (sub-zero, zero-add) at (u.on t i).consumed

      writes : ran.written ≡ length (run_from S 0 (length e) run_part t).events
      writes = rw sub-zero at (u.on t i).written

    module _ {given : List ℕ} (given_is : given ≡ take ran.written f) {out : ℕ} (out-is : out ≡ length given) where
      handed : out ≡ ran.written
      handed = out-is ∙ ap length given_is ∙ length-take-le ran.written f v.stands.room

      -- with m next, as the stop asks or because the events did not go
      ran-of : {w x : Work} {m : Next}
          → x ≡ record { have = have; left = w.left; consumed = w.consumed + ran.consumed; written = (w.written + out) % 2 ^ 64; stop = ran.stop; next = m }
          → (m ≡ next_after_stop ran.stop) ⊎ (m ≡ next.Failed) → Ran S k waiting e L w x b f M
      ran-of is next-is = rw is record {
        on = λ t i. record {
          tables = rw sub-zero at (u.keeps t i);
          events = rw sub-zero at (u.on t i).events;
          rest = rw (left, eats t i);
          have = let a = waits in let c = part-within in let d = eats t i in let l = length-take-le n buf inside in omega arith;
          stop = stops t i;
          left = refl;
          consumed = rw (eats t i);
          written = rw (handed, writes t i);
          next = rw (stops t i) at next-is;
        };
        inside = let a = waits in omega arith;
      }

      module _ {w x : Work} (is : x ≡ behind_of w ran.stop ran.consumed out have) where
        pub part-ran : Ran S k waiting e L w x b f M
        part-ran = ran-of is (inl refl)

        pub part-failed : {y : Work} → y ≡ failed_of x → Ran S k waiting e L w y b f M
        part-failed q = ran-of (q ∙ ap failed_of is) (inr refl)

-- ---- what is lent

module _ (p : List ℕ) {x : Opening} (read : x ≡ first_record p) {n : Lengths} (asked : n ≡ lengths_asked x) where
  asked_for : n ≡ lengths_for p
  asked_for = asked ∙ ap lengths_asked read

  lent_most : Most n
  lent_most = rw asked (asked_most x)

  pub longs_fit : (l : List ℕ) → 1152 ≡ length l → n.longs ≤ length l
  longs_fit l e = omega (arith, lent_most.longs)

  pub words_fit : (l : List ℕ) → 7170 ≡ length l → n.words ≤ length l
  words_fit l e = omega (arith, lent_most.words)

  pub marks_fit : (l : List ℕ) → 8384 ≡ length l → n.marks ≤ length l
  marks_fit l e = omega (arith, lent_most.marks)

  pub lent_long : (s : List ℕ) → p ≡ s → (x y z : List ℕ) → 1152 ≡ length x → 7170 ≡ length y → 8384 ≡ length z
      → Long (lent (take n.longs x) (take n.words y) (take n.marks z)) (lengths_for s)
  lent_long s e x y z a b c =
      let k : n ≡ lengths_for s = asked_for ∙ ap lengths_for e in
      record {
        longs = length-take-le n.longs x (longs_fit x a) ∙ ap (λ (l : Lengths). l.longs) k;
        words = length-take-le n.words y (words_fit y b) ∙ ap (λ (l : Lengths). l.words) k;
        marks = length-take-le n.marks z (marks_fit z c) ∙ ap (λ (l : Lengths). l.marks) k;
      }
