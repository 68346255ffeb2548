-- Words of other crates that the worked examples compute.
unfoldable pub use Rattle.base64.specs.Rfc4648.{encode_symbols}
unfoldable pub use Rattle.sshkey_entries.specs.Fields.{without_front}
