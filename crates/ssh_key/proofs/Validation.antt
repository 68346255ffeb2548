-- The key that signed a certificate has a fingerprint, unless memory runs out.
pub use Rattle.sshkey_cert.proofs.Given.{fingerprint_memory, signer_fits}
