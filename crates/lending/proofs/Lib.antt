-- Laws of what C lends as plain numbers.
pub mod Lending
