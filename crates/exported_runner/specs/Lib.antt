-- What the exported runner promises.
pub mod Called
