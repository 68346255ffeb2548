pub use Rattle.sshkey_krl.specs.Revocation
pub use Rattle.sshkey_krl.specs.Parts
pub use Rattle.sshkey_krl.specs.Krls
pub use Rattle.sshkey_krl.specs.KrlRef
pub use Rattle.sshkey_krl.specs.Revocations
pub use Rattle.sshkey_krl.specs.Writing
