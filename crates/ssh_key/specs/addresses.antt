pub use Rattle.sshkey_matching.specs.SourceAddresses
pub use Rattle.sshkey_matching.specs.FromLists
pub use Rattle.sshkey_matching.specs.AskedHosts
