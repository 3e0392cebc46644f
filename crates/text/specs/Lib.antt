-- Numbers and words as text, and the names of the replacement rules. Nothing here is document 01's.
pub mod Digits
pub mod Words
pub mod Rules
