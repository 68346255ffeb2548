pub use Rattle.sshkey_private.specs.PrivateParts
pub use Rattle.sshkey_private.specs.PrivateKeyFormats
pub use Rattle.sshkey_private.specs.Forms
pub use Rattle.sshkey_private.specs.PrivateKeys
pub use Rattle.sshkey_private.specs.Comparisons
pub use Rattle.sshkey_private.specs.PrivateKeyExamples
