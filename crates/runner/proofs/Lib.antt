-- Laws of a run that goes on: its checks and what it leaves, and that two parts are one run; what a run writes reads back.
pub mod Kept
pub mod Cut
pub mod ReadBack
