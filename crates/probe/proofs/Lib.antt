-- From the bytes and the loops to what an access meets; last, what a caller takes away.
pub mod Scans
pub mod Ways
pub mod Lines
pub mod Meetings
pub mod OfTables
