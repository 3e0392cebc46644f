-- Laws of the table of answers.
pub mod Columns
