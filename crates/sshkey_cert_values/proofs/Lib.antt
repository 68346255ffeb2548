pub mod OptionNames
pub mod OptionReaders
pub mod WrittenFields
pub mod Copies
pub mod OptionsAmong
pub mod Lawful
mod Refusals
