pub use Rattle.sshkey_known_hosts.specs.declared.entry.Entry
pub use Rattle.sshkey_known_hosts.specs.declared.hmac_sha1.HmacSha1
pub use Rattle.sshkey_known_hosts.specs.declared.host_patterns.HostPatterns
pub use Rattle.sshkey_known_hosts.specs.declared.known_hosts.KnownHosts
pub use Rattle.sshkey_known_hosts.specs.declared.marker.Marker
pub use Rattle.sshkey_known_hosts.specs.declared.openssh.OpenSshKnownHosts
pub use Rattle.sshkey_known_hosts.specs.declared.verdict.Verdict
