-- What `decide` promises; then the words that the functions below it use.
pub mod Decided
pub mod Scan
pub mod Values
