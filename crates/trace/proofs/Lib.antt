-- Laws of a trace's turns.
pub mod Going
