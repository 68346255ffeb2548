pub mod GoodBytes
pub mod WordSources
pub mod Symbols
pub mod Spreading
pub mod Walks
pub mod Pieces
pub mod Windows
pub mod ArmourBodies
mod ArmourWorked
