-- What the proofs of several functions use.
mod Spans
mod Steps
