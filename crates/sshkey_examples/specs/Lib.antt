pub mod HostCertificates
pub mod Signed
pub mod Signers
