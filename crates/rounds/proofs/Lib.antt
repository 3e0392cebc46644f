-- Laws of the rounds: the rounds of `wait` one after another, what waiting comes to and what its answers mean by demand 3; then the rounds
-- and the struck rounds as calls, from one call (`Showing`) to demand 3 of what they leave (`OfRuns`).
pub mod Written
pub mod Settling
pub mod Ends
pub mod Demand
pub mod Showing
pub mod Running
pub mod Starting
pub mod Longer
pub mod OfRuns
