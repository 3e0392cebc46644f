-- The theorems that document 01 asks for, on the tables: ranges, trees, answers, the worked cases; what sound tables are, that every step keeps
-- them sound; the victim; demand 3. General laws are in `words`, the lent slices in `encoding`.
pub mod Fits
pub mod Powers
pub mod TreeBits
pub mod Trees
pub mod Turning
pub mod Answers
pub mod Fourteen
pub mod MoreCases
pub mod WholeRun
pub mod SoundFacts
pub mod Counted
pub mod Logs
pub mod Ways
pub mod SendFillKeepSound
pub mod AccessKeepsSound
pub mod ProbeFindsSpot
pub mod AccessCases
pub mod Soundness
pub mod RunSound
pub mod Victims
pub mod Bound
pub mod SeenRounds
pub mod Terms
