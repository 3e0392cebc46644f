-- What is put into a slice as text, and the words for events, commands and stops. Nothing here is document 01's.
pub mod Pieces
pub mod Names
pub mod Rows
pub mod Events
pub mod Commands
pub mod Settings
pub mod Shown
pub mod Stops
