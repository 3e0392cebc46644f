-- Laws of a round: what a step told and wrote, and the parts of a round.
pub mod Noting
pub mod Turns
