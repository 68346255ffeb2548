pub mod Lines
pub mod CutLines
pub mod ShownEntries
pub mod Outcomes
