pub mod Fitting
pub mod Certificates
pub mod Validity
pub mod Signing
pub mod KeysOrCertificates
