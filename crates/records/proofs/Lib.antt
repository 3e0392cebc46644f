-- Laws of records: the table of lengths, reading a record, numbers as bytes, stores in a row, events and commands as bytes and back,
-- the events of a call's value, how they begin, how many bytes they are, and that they fit.
pub mod Lengths
pub mod Reading
pub mod Digits
pub mod Stores
pub mod Encoding
pub mod Decoding
pub mod RoundTrip
pub mod Items
pub mod WholeRun
pub mod Log
pub mod Reply
pub mod Begun
pub mod Room
pub mod Fits
pub mod OfCalls
