pub use Rattle.sshkey_cert_values.specs.CertificateFields
pub use Rattle.sshkey_cert_values.specs.Comparisons
