pub use Rattle.sshkey_cert_ref.specs.Parts
pub use Rattle.sshkey_cert_ref.specs.Certificates
pub use Rattle.sshkey_cert_ref.specs.CertificateRef
pub use Rattle.sshkey_cert_ref.specs.Lists
pub use Rattle.sshkey_cert_ref.specs.SpelledOptions
pub use Rattle.sshkey_cert_ref.specs.Views
