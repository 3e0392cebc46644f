-- Laws of the windows and the turns, and of the check part by part.
pub mod Feeding
pub mod Turning
pub mod Parts
