-- What the rounds that are shown end in.
pub mod Verdicts
