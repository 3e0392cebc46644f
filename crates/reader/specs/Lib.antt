-- What the record reader hands back, and where it stands afterwards.
pub mod Taken
