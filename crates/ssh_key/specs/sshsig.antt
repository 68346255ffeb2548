pub use Rattle.sshkey_sshsig.specs.SshSignatures
pub use Rattle.sshkey_sshsig.specs.SshSignatureReaders
pub use Rattle.sshkey_sshsig.specs.SshSignatureFormats
pub use Rattle.sshkey_sshsig.specs.Signing
pub use Rattle.sshkey_sshsig.specs.Comparisons
