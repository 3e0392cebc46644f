-- General words that the definitions use: tests on lists and on the numbers below n; regions of a slice. Nothing here is document 01's.
pub mod Words
pub mod Regions
