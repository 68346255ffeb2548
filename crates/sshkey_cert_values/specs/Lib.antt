pub mod CertificateFields
pub mod Comparisons
