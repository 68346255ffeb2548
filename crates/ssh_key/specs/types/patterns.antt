pub use Rattle.sshkey_matching.specs.declared.pattern.LetterCase
