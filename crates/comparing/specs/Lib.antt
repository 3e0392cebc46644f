-- Two logs side by side: which kinds start a group, what is wrong with a log, its groups, and the pairs that differ.
pub mod Kinds
pub mod Groups
pub mod Checks
pub mod Pairs
pub mod Coming
pub mod Steps
