pub mod SshSignatures
pub mod SshSignatureReaders
pub mod Signing
pub mod Comparisons
pub mod SshSignatureFormats
pub mod SshSignatureExamples
