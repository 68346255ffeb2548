pub mod PrivateParts
pub mod PrivateKeyFormats
pub mod Forms
pub mod PrivateKeys
pub mod Comparisons
pub mod PrivateKeyExamples
