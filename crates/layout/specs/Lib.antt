-- Where the parts of the tables lie in the lent slices, what is read of a line and of the places of a table, and words said of `Slices`.
pub mod Layout
pub mod Held
pub mod Places
pub mod Powers
pub mod Sectors
