use Rattle.std.proofs.Common.{◌⊎◌, ◌↔◌, ℕ, List, IsTrue, inl, inr}
use Rattle.sshkey_krl.specs.Revocation.{CertificateIdentity}
use Rattle.sshkey_revoked_keys.proofs.RevokedLines.{either, key_found, left, line_found, right}
use Rattle.sshkey_revoked_keys.specs.RevokedKeys.{AreKeys, HasLineOf, has_key, revokes, revokes_key, revoked_lines}
use Rattle.sshkey_revoked_keys.specs.declared.revoked_keys.RevokedKeys.{RevokedKeys}
use Rattle.sshkey_revoked_keys.specs.declared.revoked_keys.RevokedKeys.TheVariants.{Keys, Krl}
use Rattle.sshkey_revoked_keys.proofs.laws.lines_revoke.Goals as goal

keys_of : (text key : List ℕ) (file : RevokedKeys) → AreKeys text file → IsTrue (revokes_key file key) ↔ HasLineOf text key
keys_of text key (Krl k) are = absurd are
keys_of text key (Keys v) are = (line_found key (revoked_lines text) v.items are, key_found key (revoked_lines text) v.items are)

certificates_of : (text key : List ℕ) (identity : CertificateIdentity) (file : RevokedKeys) → AreKeys text file → IsTrue (revokes file key identity) ↔ (HasLineOf text key ⊎ HasLineOf text identity.signer)
certificates_of text key identity (Krl k) are = absurd are
certificates_of text key identity (Keys v) are = (
  λ has. elim (either (has_key v.items key) (has_key v.items identity.signer) has) [
    | inl one ↦ inl (line_found key (revoked_lines text) v.items are one)
    | inr other ↦ inr (line_found identity.signer (revoked_lines text) v.items are other)
  ],
  λ found. elim found [
    | inl one ↦ left (has_key v.items key) (has_key v.items identity.signer) (key_found key (revoked_lines text) v.items are one)
    | inr other ↦ right (has_key v.items key) (has_key v.items identity.signer) (key_found identity.signer (revoked_lines text) v.items are other)
  ],
)

pub returns-clause-keys : goal.returns-clause-keys
returns-clause-keys c = keys_of

pub returns-clause-certificates : goal.returns-clause-certificates
returns-clause-certificates c = certificates_of
