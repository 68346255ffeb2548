pub use Rattle.sshkey_revoked_keys.specs.RevokedKeys
