pub use Rattle.sshkey_kinds.specs.PointSizes
pub use Rattle.sshkey_kinds.specs.ByteHash
pub use Rattle.sshkey_kinds.specs.EcPoint
pub use Rattle.sshkey_kinds.specs.EcdsaPublicKey
pub use Rattle.sshkey_kinds.specs.EcdsaEquality
pub use Rattle.sshkey_kinds.specs.Kinds
pub use Rattle.sshkey_kinds.specs.Comparisons
pub use Rattle.sshkey_kinds.specs.Ed25519PublicKey
