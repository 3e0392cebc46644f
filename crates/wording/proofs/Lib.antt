-- Laws of text put piece by piece, and of settings with a range.
pub mod Pieces
pub mod Ranges
