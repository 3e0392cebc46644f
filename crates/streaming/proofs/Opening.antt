-- Reading up to the first record: what came is counted, and each turn reads or is the last.
use Rattle.words.proofs.General.{ℕ, ◌+◌, ◌^◌, ◌≤◌, arith, ◌≡◌, refl, ap, ◌∙◌, false, List, length, take, by_flag}
use Rattle.std.specs.Prelude.{Result, Ok, Err}
use Rattle.running.specs.Begin.{first_there}
use Rattle.input.specs.declared.Ended.{Ended}
use Rattle.input.specs.Buffers.{Grown, turns_left}
use Rattle.input.specs.declared.NoMore.{NoMore}
use Rattle.input.specs.declared.NoMore.TheVariants as no
use Rattle.input.specs.declared.Waiting.{Waiting}
use Rattle.input.proofs.Counts.{turns_fall, turns_none}
use Rattle.streaming.specs.declared.work.Next.{Next}
use Rattle.streaming.specs.declared.work.Next.TheVariants as next
use Rattle.streaming.specs.declared.work.Work.{Work}
use Rattle.streaming.specs.Works.{reads_next, start_of}
use Rattle.streaming.specs.First.{Opened, NoMoreRead, after_reading}

-- what comes next goes by what is there
asked_after : (n : ℕ) (buf : List ℕ) → NoMoreRead (after_reading (take n buf)) n buf
asked_after n buf = by_flag (λ (m : Next). NoMoreRead m n buf) (first_there (take n buf)) _ _ (λ z. z) (λ z. tt)

opened : {have left : ℕ} {m : Next} {x : Work} (buf : List ℕ) → x ≡ start_of have left m → have ≤ length buf → have + left + 1 ≡ 2 ^ 64 → NoMoreRead m have buf → Opened buf x
opened buf e h q a = record { new = rw e; inside = rw e h; all = rw e q; asked = rw e a }

pub opened_first : {x : Work} (buf : List ℕ) → x ≡ start_of 0 18446744073709551615 next.Read → Opened buf x
opened_first buf e = opened buf e (omega arith) refl tt

abbrev pub OnceRead : List ℕ → Work → Work → Type 0
OnceRead buf w x = Opened buf x × (turns_left (reads_next x.next) x.left ≤ w.left)

module _ {buf b : List ℕ} {w : Work} (o : Opened buf w) (size : length b ≡ length buf) {r : Result Waiting NoMore} (g : Grown buf w.have w.left r b) where
  pub opened_read : {v : Waiting} → r ≡ Ok v → {m : Next} {s : List ℕ} → m ≡ after_reading s → s ≡ take v.have b → {x : Work} → x ≡ start_of v.have v.left m → OnceRead b w x
  opened_read {v} q {m} {s} next-is s-is e =
      let h = rw q at g.grows in
      let a = o.all in
      let z : m ≡ after_reading (take v.have b) = next-is ∙ ap after_reading s-is in
      (opened b e (omega arith) (omega arith) (rw z (asked_after v.have b)), rw e (turns_fall g q (reads_next m)))

  opened_over : {m : Next} {x : Work} → x ≡ start_of w.have w.left m → reads_next m ≡ false → NoMoreRead m w.have b → OnceRead b w x
  opened_over {m} e z a =
      let h = o.inside in
      (opened b e (omega arith) o.all a, rw e (turns_none (reads_next m) w.left w.left z))

  pub opened_ends : {end : Ended} → r ≡ Err (no.End end) → {x : Work} → x ≡ start_of w.have w.left (next.Ended end) → OnceRead b w x
  opened_ends q e = opened_over e refl (rw q at g.grows)

  pub opened_fails : {x : Work} → x ≡ start_of w.have w.left next.Failed → OnceRead b w x
  opened_fails e = opened_over e refl tt
