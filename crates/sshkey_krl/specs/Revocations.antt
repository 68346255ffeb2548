-- What decisions ask of those who say what is revoked. Keys are the bytes of their normal forms.
use Rattle.std.specs.Prelude.{ℕ, List, Bool, true, false, Result, Ok, Err}
use Rattle.sshkey_model.specs.Certificates.{Certificate}
use Rattle.sshkey_model.specs.Keys.{Key, normal_key}
use Rattle.sshkey_model.specs.Parts.{flat}
use Rattle.sshkey_krl.specs.Revocation.{CertificateIdentity, certificate_identity_of}

abbrev pub is_key_revoked : (List ℕ → Bool) → Key → Bool
is_key_revoked revokes_key k = revokes_key (flat (normal_key k))

abbrev pub is_certificate_revoked : (List ℕ → CertificateIdentity → Bool) → Certificate → Bool
is_certificate_revoked revokes c = revokes (flat (normal_key c.signed.key)) (certificate_identity_of c)

-- What could not be read revokes all.
abbrev pub unless_read : {R E : Type 0} → (R → Bool) → Result R E → Bool
unless_read says (Ok r) = says r
unless_read says (Err e) = true

-- What could not be read says nothing.
abbrev pub only_if_read : {R E : Type 0} → (R → Bool) → Result R E → Bool
only_if_read says (Ok r) = says r
only_if_read says (Err e) = false
