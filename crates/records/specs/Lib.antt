-- What the writers promise of a slice; events and commands whose numbers fit their bytes; the parts of a call's events, settings by their numbers,
-- a part of a stream; what stands at a place of one; what masks mark.
pub mod Stores
pub mod Fitting
pub mod Parts
pub mod Items
pub mod Masks
