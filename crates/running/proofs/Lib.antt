-- Laws of a run: record by record, the checks and the step at a record, the loops, the first record; a run in parts; the lengths asked for.
pub mod Running
pub mod Checks
pub mod Tickets
pub mod Acting
pub mod Singles
pub mod Counts
pub mod Turns
pub mod First
pub mod Parts
pub mod Asked
