-- What a refused access waits for, and what the parts of the code that tells it promise.
pub mod Reasons
pub mod Parts
