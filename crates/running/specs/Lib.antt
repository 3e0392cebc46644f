-- What the inner functions of the runner promise: one record and a run that goes on; the first record; the lengths it asks for.
pub mod Resume
pub mod Begin
pub mod Lengths
