-- Settings as C lends them.
pub mod Lending
