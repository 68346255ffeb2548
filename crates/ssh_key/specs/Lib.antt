-- The words of contracts, each module under the name of its crate without `sshkey_`:
-- `Rattle.sshkey_keys.specs.Keys` is `Rattle.ssh_key.specs.keys.Keys`. The types of code are in
-- `types`, by their paths in this crate.
pub mod model
pub mod base
pub mod terms
pub mod base64
pub mod kinds
pub mod fingerprints
pub mod keys
pub mod keys_ref
pub mod pair_kinds
pub mod pairs
pub mod sshsig
pub mod public
pub mod addresses
pub mod patterns
pub mod entries
pub mod authorized_keys
pub mod known_hosts
pub mod ciphers
pub mod private
pub mod cert_values
pub mod cert_fields
pub mod cert
pub mod cert_ref
pub mod krl
pub mod revoked_keys
pub mod cert_builder
pub mod types
pub mod NormalForms
pub mod OpenLaws
