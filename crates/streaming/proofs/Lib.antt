-- Laws of a run in parts: the bytes before the last record; where a run stops before bytes; what a part leaves, a turn, the turns to the end.
pub mod Lasts
pub mod Opening
pub mod Stops
pub mod Waiting
pub mod Leaving
pub mod Turns
pub mod Starting
pub mod Wholes
