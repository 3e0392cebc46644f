-- What the functions on a buffer promise.
pub mod Buffers
