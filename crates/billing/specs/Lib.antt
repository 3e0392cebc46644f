-- What the events of a log add up to.
pub mod Dues
pub mod Bills
pub mod Logs
