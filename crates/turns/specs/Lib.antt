-- What the parts of a round promise.
pub mod Parts
