pub mod ReadLines
pub mod Filling
pub mod LentSlices
pub mod WrittenLines
pub mod Verified
