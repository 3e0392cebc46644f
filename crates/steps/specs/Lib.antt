-- What the parts of the inner steps ask and promise of the raw numbers.
pub mod Parts
