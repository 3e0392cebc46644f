-- What the parts of the check and the turns over two logs promise.
pub mod Windows
pub mod Turns
pub mod Lines
pub mod Checking
