-- What the trees are below, the shape of a sector in two parts, where the queue's used places end, and the verdict of the checks with the
-- layout.
pub mod Limits
pub mod Shapes
pub mod Queued
pub mod Laid
