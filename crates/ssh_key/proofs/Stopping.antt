-- How a reading call stops on any source: `using(ssh_key::proofs::Stopping::stopping)`.
pub use Rattle.sshkey_base.proofs.Stopping.{stopping}
pub use Rattle.sshkey_base.proofs.Stopping.{refused_stopped, never_stops, read_past, checked_stopped, judged_stops, length_stopped, after_stops, same_stops, step_ok, not_taken}
pub use Rattle.sshkey_terms.proofs.Stopping.{stopped_first, stopped_later, mapped_stopped, mapped_stops}
