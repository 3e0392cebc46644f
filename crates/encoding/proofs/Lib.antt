-- The lent slices and the tables that they hold. In order: sound slices as facts on their numbers; a slice and its regions; slices in which
-- tables stand; sound slices are the encoding of sound tables, one to one (`Bridge`); then runs, calls and rounds on slices as those on the
-- tables, demand 3 among them; the shape of what a step tells.
pub mod Rows
pub mod LentSoundFacts
pub mod InUse
pub mod Slices
pub mod Standing
pub mod NumbersAreTables
pub mod SoundByPlace
pub mod EncodeIsSound
pub mod DecodeIsSound
pub mod Bridge
pub mod RunGoesOn
pub mod Separate
pub mod LentRounds
pub mod Demand
pub mod ReplyShapes
