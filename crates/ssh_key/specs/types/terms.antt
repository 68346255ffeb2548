pub use Rattle.sshkey_terms.specs.declared.counted.read.Counted
