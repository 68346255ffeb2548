pub use Rattle.sshkey_authorized_keys.specs.Options
pub use Rattle.sshkey_authorized_keys.specs.AuthorizedEntries
pub use Rattle.sshkey_authorized_keys.specs.OpenSshEntries
