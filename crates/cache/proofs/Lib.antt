-- Laws of the calls: what a check that refuses or passes makes of a call, and what making fresh tables comes to.
pub mod Checked
pub mod Freshly
