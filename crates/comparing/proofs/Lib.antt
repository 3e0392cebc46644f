-- Laws of groups and of pairs, and what the proofs of this crate's functions cite.
pub mod Table
pub mod Walks
pub mod Scans
pub mod Bytes
pub mod Sides
pub mod Firsts
pub mod SameBytes
pub mod Parts
pub mod Examples
pub mod Listed
pub mod InParts
pub mod Rests
pub mod Walked
pub mod Progress
