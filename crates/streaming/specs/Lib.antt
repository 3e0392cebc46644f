-- What the functions of a run in parts promise: where it stands between two parts; how much is run; a part.
pub mod Works
pub mod Scopes
pub mod First
pub mod Halts
pub mod Parts
pub mod Wholes
