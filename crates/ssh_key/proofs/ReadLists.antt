-- A loop that reads values up to the end of a source.
pub use Rattle.sshkey_base.proofs.ReadLists.{Collects, StillOverruns, collects_none, collects_more, collects_refused, collects_end, overruns_more}
