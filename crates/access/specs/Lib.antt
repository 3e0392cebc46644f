-- What the functions of an access on sound tables promise.
pub mod Written
pub mod Plan
