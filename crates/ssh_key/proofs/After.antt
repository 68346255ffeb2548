-- A call that reads a value and what follows it.
pub use Rattle.sshkey_terms.proofs.After.{both_refused_first, both_refused_later, both_reads}
