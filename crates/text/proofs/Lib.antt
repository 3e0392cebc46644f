-- Laws that the proofs of this crate's functions cite.
pub mod Runs
pub mod Spelling
pub mod Puts
pub mod Reading
pub mod RuleNames
