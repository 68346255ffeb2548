pub mod Ciphertexts
pub mod Names
pub mod Lawful
