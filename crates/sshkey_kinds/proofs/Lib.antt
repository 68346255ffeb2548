pub mod Points
pub mod Parts
pub mod PointStrings
pub mod EqualPoints
pub mod Lawful
