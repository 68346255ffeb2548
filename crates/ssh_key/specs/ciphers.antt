pub use Rattle.sshkey_ciphers.specs.Ciphers
pub use Rattle.sshkey_ciphers.specs.Formats
pub use Rattle.sshkey_ciphers.specs.CipherExamples
