mod Answered
mod HostCertificates
mod Room
mod Faults
mod Signers
