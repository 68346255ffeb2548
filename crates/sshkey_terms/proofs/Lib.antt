pub mod Lawful
pub mod CountedLists
pub mod ListsToEnd
pub mod Stopping
pub mod Mapped
pub mod Tested
pub mod Chosen
pub mod Needless
pub mod Walking
pub mod Each
pub mod Gathering
pub mod After
mod Measured
mod Filled
mod Past
pub mod SliceFronts
