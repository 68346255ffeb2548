pub mod Dividers
pub mod Entries
pub mod OptionEnds
pub mod OptionCuts
