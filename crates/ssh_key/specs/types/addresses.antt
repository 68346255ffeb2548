pub use Rattle.sshkey_matching.specs.declared.from.FromFault
pub use Rattle.sshkey_matching.specs.declared.malformed.Malformed
pub use Rattle.sshkey_matching.specs.declared.host.AskedHost
pub use Rattle.sshkey_matching.specs.declared.host.HostFault
