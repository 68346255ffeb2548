pub mod OptionLists
pub mod TextSteps
pub mod OptionSteps
pub mod LengthPrefixed
pub mod Certificates
pub mod Answers
pub mod Lawful
