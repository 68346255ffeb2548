pub use Rattle.sshkey_cert.specs.Fitting
pub use Rattle.sshkey_cert.specs.Certificates
pub use Rattle.sshkey_cert.specs.Validity
pub use Rattle.sshkey_cert.specs.Signing
pub use Rattle.sshkey_cert.specs.KeysOrCertificates
