-- What revokes a key revokes each certificate of it.
use Rattle.std.specs.Prelude.{◌≡◌, ℕ, List, true}
use Rattle.sshkey_krl.specs.KrlRef.{krl_of}
use Rattle.sshkey_krl.specs.Revocation.{CertificateIdentity}
use Rattle.sshkey_krl.proofs.Wholeness.{first_of, list_whole}
use Rattle.sshkey_revoked_keys.specs.RevokedKeys.{has_key, revokes, revokes_key}
use Rattle.sshkey_revoked_keys.specs.declared.revoked_keys.RevokedKeys.{RevokedKeys}
use Rattle.sshkey_revoked_keys.specs.declared.revoked_keys.RevokedKeys.TheVariants.{Keys, Krl}

pub file_whole : (file : RevokedKeys) (key : List ℕ) (asked : CertificateIdentity) → revokes_key file key ≡ true → revokes file key asked ≡ true
file_whole (Krl k) key asked e = list_whole (krl_of k) key asked e
file_whole (Keys keys) key asked e = first_of (has_key keys.items key) (has_key keys.items asked.signer) e
