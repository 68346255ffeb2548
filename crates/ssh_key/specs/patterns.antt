pub use Rattle.sshkey_matching.specs.Patterns
