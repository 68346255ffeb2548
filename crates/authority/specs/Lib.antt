pub mod Issuance
pub mod Revoked
