-- Laws of bills, and what the proofs of this crate's functions cite.
pub mod Sums
pub mod Parts
pub mod Totals
