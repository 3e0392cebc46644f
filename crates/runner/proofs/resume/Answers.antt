-- The checks, then the records.
use Rattle.words.proofs.General.{rules}
use Rattle.soundness.proofs.Checked.{passed-own}
use Rattle.runner.proofs.Kept.{resume_stands, resume_stopped, resume_went}
use Rattle.runner.proofs.resume.Goals as goal

pub run_records-requires : goal.run_records-requires
run_records-requires c =
    record { sound = passed-own _ _ c.checked_layout.ensures (λ n. search rules) c.in-Ok.is; run_at = resume_stands _ _ }

pub returns-in-Err : goal.returns-in-Err
returns-in-Err c = search resume_stopped

pub returns-in-Ok : goal.returns-in-Ok
returns-in-Ok c =
    resume_went _ _ _ _ c.checked_layout.ensures (λ n. search rules) c.in-Ok.is
    c.run_records.ensures
