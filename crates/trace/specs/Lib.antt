-- What a command offers and how it was refused; what the turns of a trace promise.
pub mod Offers
pub mod Turns
