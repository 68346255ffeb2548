pub use Rattle.sshkey_fingerprints.specs.Fingerprints
pub use Rattle.sshkey_fingerprints.specs.FingerprintTexts
pub use Rattle.sshkey_fingerprints.specs.RandomArt
pub use Rattle.sshkey_fingerprints.specs.Walks
pub use Rattle.sshkey_fingerprints.specs.Pictures
