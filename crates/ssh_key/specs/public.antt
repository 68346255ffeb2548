pub use Rattle.sshkey_public.specs.Words
pub use Rattle.sshkey_public.specs.Lines
pub use Rattle.sshkey_public.specs.WrittenLines
pub use Rattle.sshkey_public.specs.PublicKeys
