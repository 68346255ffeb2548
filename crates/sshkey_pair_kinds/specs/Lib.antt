pub mod Pairs
pub mod SkEcdsaSha2NistP256
pub mod SkEd25519
pub mod SkKeypairs
