pub mod Taking
pub mod KeyBytes
pub mod Keys
pub mod Signatures
