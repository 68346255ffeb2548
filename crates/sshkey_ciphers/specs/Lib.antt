pub mod Ciphers
pub mod Formats
pub mod CipherExamples
