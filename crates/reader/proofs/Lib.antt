-- Laws of the place behind a record.
pub mod Places
