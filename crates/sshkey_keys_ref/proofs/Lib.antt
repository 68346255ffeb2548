pub mod Acceptance
pub mod WalkedBodies
pub mod Keys
pub mod Signatures
