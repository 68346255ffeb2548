pub use Rattle.sshkey_keys_ref.specs.Taking
pub use Rattle.sshkey_keys_ref.specs.KeyBytes
pub use Rattle.sshkey_keys_ref.specs.Keys
pub use Rattle.sshkey_keys_ref.specs.Signatures
