-- Demand 3 of the calls, what waiting for an access comes to, and what the inner functions promise.
pub mod Waiting
pub mod Demand3
pub mod Parts
