-- The events that a run tells, and what a part that goes on stops with.
pub mod Told
pub mod Stops
