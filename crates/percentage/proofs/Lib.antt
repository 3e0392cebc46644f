pub mod Laws
pub mod Ties
pub mod Legal
pub mod Lists
pub mod Hundreds
pub mod Writes
