-- What the functions of the wait promise: what a stream ends in; how much is queued and missed.
pub mod Lasts
pub mod Counts
