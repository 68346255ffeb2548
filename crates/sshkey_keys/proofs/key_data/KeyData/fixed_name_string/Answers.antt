use Rattle.std.proofs.Common.{rules}
use Rattle.sshkey_keys.proofs.key_data.KeyData.fixed_name_string.Goals as goal
use Rattle.sshkey_keys.proofs.key_data.KeyData.fixed_name_string.Goals.{in-Dsa, in-Ecdsa-NistP256, in-Ecdsa-NistP384, in-Ecdsa-NistP521, in-Ed25519, in-Rsa, in-SkEcdsaSha2NistP256, in-SkEd25519}

pub returns : goal.returns
returns c = elim c.match-self.branch [
  | in-Dsa w ↦ search rules
  | in-Ecdsa-NistP256 w ↦ rw (w.in-Ecdsa-NistP256.is, w.result-is) (search rules)
  | in-Ecdsa-NistP384 w ↦ rw (w.in-Ecdsa-NistP384.is, w.result-is) (search rules)
  | in-Ecdsa-NistP521 w ↦ rw (w.in-Ecdsa-NistP521.is, w.result-is) (search rules)
  | in-Ed25519 w ↦ search rules
  | in-Rsa w ↦ search rules
  | in-SkEcdsaSha2NistP256 w ↦ search rules
  | in-SkEd25519 w ↦ search rules
]
