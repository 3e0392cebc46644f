-- The head's entry is there; what is found first is marked.
use Rattle.steps.proofs.Sending.{first-inside}
use Rattle.layout.proofs.Stores.{one-put}
use Rattle.words.proofs.General.{arith}
use Rattle.steps.proofs.mark_head.Goals as goal

pub returns-in-Read : goal.returns-in-Read
returns-in-Read c =
    let f = c.find_entry-e in let k = first-inside f.ensures (c.requires.head_asked c.in-Read.is) in record {
      reads = λ _. record { entry = f.result; inside = k; first = f.ensures; marks_are = one-put c.args.marks.now _ _ (omega arith) };
      other = λ no. absurd (no c.in-Read.is);
    }
