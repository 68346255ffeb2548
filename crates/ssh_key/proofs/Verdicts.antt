-- Some of two lists.
pub use Rattle.sshkey_known_hosts.proofs.Verdicts.{first, later, either}
