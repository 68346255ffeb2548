-- A text begins with one field, and with one option.
pub use Rattle.sshkey_entries.proofs.Fields.{same_field}
pub use Rattle.sshkey_entries.proofs.OptionItems.{one_option, some_option}
