-- Laws of text as it is formatted.
pub mod Pages
