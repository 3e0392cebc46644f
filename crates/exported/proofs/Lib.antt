-- What an exported call leaves, from what the call and the writer of its records promise; that what it writes reads back.
pub mod Calling
pub mod Showing
pub mod ReadBack
