pub mod Slices
pub mod Past
