-- What an exported run leaves, from what the run promises; that what it writes reads back.
pub mod Calling
pub mod ReadBack
