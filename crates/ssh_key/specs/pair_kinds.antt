pub use Rattle.sshkey_pair_kinds.specs.Pairs
pub use Rattle.sshkey_pair_kinds.specs.SkEcdsaSha2NistP256
pub use Rattle.sshkey_pair_kinds.specs.SkEd25519
pub use Rattle.sshkey_pair_kinds.specs.SkKeypairs
