-- What the test programs share.
pub mod Numbers
pub mod Same
