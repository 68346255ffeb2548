-- Refusals that are not for memory.
pub use Rattle.sshkey_base.proofs.Acceptance.{other_cause, unspelled}
