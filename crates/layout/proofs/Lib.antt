-- Laws of tests, of ranges and lengths, of the numbers by place; then how tables stand in the slices: stores, a record that comes or grows, lines and their sectors,
-- fresh tables.
pub mod ByBlocks
pub mod ByPlace
pub mod DirtyCount
pub mod Filled
pub mod Grown
pub mod Lines
pub mod OfRange
pub mod OneOfFour
pub mod Replaced
pub mod Room
pub mod Parts
pub mod Stores
