mod Blobs
pub mod FirstLines
mod Judgements
mod Lines
pub mod LongParts
mod Places
mod Spelled
mod Spellings
mod SkippedLines
mod PrincipalLines
pub mod CertificateLogins
pub mod Principals
mod ExampleLemmas
