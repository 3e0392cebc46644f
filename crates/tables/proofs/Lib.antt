-- Laws that carry what the leaves leave to the tables.
pub mod Bytes
pub mod FourBytes
pub mod Statuses
pub mod Closed
pub mod Ones
pub mod Queue
pub mod Misses
pub mod Tellings
pub mod Changing
