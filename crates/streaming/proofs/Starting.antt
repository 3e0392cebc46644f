-- The first record: it stops the run, or leaves fresh tables and the bytes behind it to the turns.
use Rattle.words.proofs.General.{ℕ, ◌+◌, ◌-◌, ◌^◌, ◌≤◌, ◌<◌, arith, ◌≡◌, sym, ap, subst, ◌∙◌, List, [], length, take, length-take-le}
use Rattle.model.proofs.Terms.{Lent}
use Rattle.model.specs.declared.Settings.{Settings}
use Rattle.model.specs.declared.Stop.{Stop}
use Rattle.std.specs.Prelude.{Ok, Err, Option}
use Rattle.running.specs.Begin.{Opening, Begins}
use Rattle.running.specs.Lengths.{Final, lengths_for, Long}
use Rattle.running.proofs.First.{begun-held, begun-stands}
use Rattle.running.proofs.Asked.{asked_stops}
use Rattle.input.specs.Buffers.{carried, carried_count}
use Rattle.streaming.specs.declared.work.Next.{Next}
use Rattle.streaming.specs.declared.work.Next.TheVariants as next
use Rattle.streaming.specs.declared.work.Work.{Work}
use Rattle.streaming.specs.Works.{over_next, stopped_of, begun_of, Sure}
use Rattle.streaming.specs.Parts.{Starts}
use Rattle.streaming.proofs.Leaving.{carried_rest, carried_is}

over_sure : (m : Next) (n : Option Stop) → Final n → Sure (over_next m) n
over_sure next.Read n h = tt
over_sure next.Run n h = h
over_sure next.Stopped n h = h
over_sure (next.Ended e) n h = h
over_sure next.Failed n h = tt

abbrev accepted : Settings → ℕ → Opening
accepted S next = Ok (S, next)

module _ {L : Lent} {p : List ℕ} {r : Opening} {M : Lent} (begins : Begins L p r M) (buf : List ℕ) (w : Work) (p-is : p ≡ take w.have buf) where
  abbrev s : List ℕ
  s = take w.have buf

  b : Begins L s r M
  b = subst (λ (x : List ℕ). Begins L x r M) p-is begins

  pub start_stops : {n : Option Stop} {x : Work} → r ≡ Err n → Long L (lengths_for s) → x ≡ stopped_of w n → Starts L s w (Err x) M buf
  start_stops {n} {x} q long is =
      let e : x.stop ≡ n = ap (λ (y : Work). y.stop) is in
      record {
        says = ap Err e ∙ sym q ∙ b.says;
        tables = b.tables;
        after = λ k. (rw is, rw is (over_sure w.next n (asked_stops L s n long (sym b.says ∙ q))));
      }

  module _ {S : Settings} {n : ℕ} (q : r ≡ Ok (S, n)) (inside : w.have ≤ length buf) (roomy : 64 ≤ length buf) (counted : w.have + w.left < 2 ^ 64) where
    whole : n ≤ w.have
    whole = let h = (begun-stands b q []).inside in let l = length-take-le w.have buf inside in omega arith

    pub start-runs : {rest : ℕ} {c : List ℕ} {x : Work} → rest ≡ carried_count buf n w.have → c ≡ carried buf n w.have → length c ≡ length buf
        → x ≡ begun_of n rest w.left → Starts L s w (Ok (S, x)) M c
    start-runs {rest} {c} {x} count moved size is =
        let e : x.have ≡ rest = ap (λ (y : Work). y.have) is in
        let d : x.consumed ≡ n = ap (λ (y : Work). y.consumed) is in
        let m : rest ≡ w.have - n = count ∙ carried_is buf n w.have whole inside in
        let g = whole in
        record {
          says = ap (accepted S) d ∙ sym q ∙ b.says;
          tables = b.tables;
          after = λ k. (
            rw is,
            rw (e, d, count, moved) (carried_rest buf n w.have g inside),
            rw is record {
              held = begun-held b q;
              inside = omega arith;
              roomy = omega arith;
              counted = omega arith;
              small = omega arith;
              sure = tt;
              few = tt;
              before = λ t i. tt;
            },
          );
        }
