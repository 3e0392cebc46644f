-- What making fresh tables comes to.
pub mod Made
