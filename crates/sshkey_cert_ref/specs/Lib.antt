pub mod Lists
pub mod SpelledOptions
pub mod Views
pub mod Parts
pub mod Certificates
pub mod CertificateRef
