-- The assembler's language: what a line of it means; what a line makes of a stream.
pub mod Language
pub mod Output
