-- Laws of the inner steps: from what their parts leave to the steps of the tables.
pub mod Entries
pub mod Sending
pub mod Filling
pub mod Ticking
