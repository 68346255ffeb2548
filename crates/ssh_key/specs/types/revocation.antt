pub use Rattle.sshkey_krl.specs.declared.krl.Krl
pub use Rattle.sshkey_krl.specs.declared.krl_ref.KrlRef
pub use Rattle.sshkey_krl.specs.declared.revocations.NoRevocations
pub use Rattle.sshkey_revoked_keys.specs.declared.revoked_keys.RevokedKeys
