pub mod Inputs
pub mod Words
pub mod Lines
pub mod WrittenLines
pub mod PublicKeys
