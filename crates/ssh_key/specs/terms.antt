pub use Rattle.sshkey_terms.specs.Slices
