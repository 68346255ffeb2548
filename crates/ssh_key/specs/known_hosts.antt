pub use Rattle.sshkey_known_hosts.specs.HostEntries
pub use Rattle.sshkey_known_hosts.specs.HostFaults
pub use Rattle.sshkey_known_hosts.specs.Verdicts
pub use Rattle.sshkey_known_hosts.specs.Hmac
