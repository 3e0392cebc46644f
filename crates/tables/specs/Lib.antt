-- What the leaves over the lent slices say.
pub mod Raw
pub mod Telling
pub mod Changed
