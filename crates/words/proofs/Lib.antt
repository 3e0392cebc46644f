-- General laws, each in one place for every crate: flags, lists, counts, loops over the numbers below n, tests and what they decide,
-- arrays of words, regions of a slice, places and blocks, tables of a function's values.
pub mod Flags
pub mod Lists
pub mod Counting
pub mod Below
pub mod Chains
pub mod Reflect
pub mod Arrays
pub mod Region
pub mod Places
pub mod Tabled
pub mod Ranged
pub mod General
