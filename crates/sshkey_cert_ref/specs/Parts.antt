-- What a call gives that cuts parts off the front of a slice.
use Rattle.std.specs.Prelude.{◌≡◌, List, ℕ, Result, Ok, Err}
use denote.Ref.{Bor}
use Rattle.sshkey_model.specs.Reading.{Fault, Front}
use Rattle.sshkey_base.specs.Causes.{Cause}
use Rattle.sshkey_base.specs.Reading.{Refuses}
use Rattle.sshkey_model.specs.CertificateNames.{certificate_name}
use Rattle.sshkey_model.specs.Certificates.{SignedFields, CertificateChoices}
use Rattle.sshkey_model.specs.Grammar.{spelled}
use Rattle.sshkey_model.specs.Keys.{Key, Head, key_algorithm, body, key}
use Rattle.sshkey_model.specs.Parts.{flat}
use Rattle.sshkey_model.specs.Signatures.{Signature, signature}
use Rattle.sshkey_keys_ref.specs.Keys.{key_bytes}
use Rattle.sshkey_keys_ref.specs.Signatures.{signature_bytes}
use Rattle.sshkey_keys_ref.specs.declared.key_data_ref.KeyDataRef.{KeyDataRef}
use Rattle.sshkey_keys_ref.specs.declared.signature_ref.SignatureRef.{SignatureRef}
use Rattle.sshkey_cert_values.specs.CertificateFields.{type_of, time_of, end_of}
use Rattle.sshkey_cert_ref.specs.Views.{texts_of, spelled_options_of}
use Rattle.sshkey_cert_ref.specs.declared.parts.Parts.{Parts}

-- What belongs to the value that was found, or the fault that was. It takes no memory.
abbrev pub TakesWhole : {X Y E : Type 0} → (X → Y → Type 0) → (E → Cause) → Result Y Fault → Result X E → Type 0
TakesWhole {Y = Y} BelongsTo cause found (Ok x) = (y : Y) × BelongsTo x y × (found ≡ Ok y)
TakesWhole BelongsTo cause found (Err e) = Refuses 0 (cause e) found

-- What belongs to the value that the plain reader gives, and the bytes after it, or its fault.
abbrev pub Cuts : {X Y E : Type 0} → (X → Y → Type 0) → (E → Cause) → Front Y → List ℕ → Result (X × Bor (List ℕ)) E → Type 0
Cuts {Y = Y} BelongsTo cause read b (Ok p) = (y : Y) × BelongsTo p.0 y × (read b ≡ Ok (y, p.1.now))
Cuts BelongsTo cause read b (Err e) = Refuses 0 (cause e) (read b)

-- Which slices are the parts of which certificate.

-- the bytes are those of the key, its name spelled as the choice says
abbrev pub IsKeyIn : KeyDataRef → Key × Head → Type 0
IsKeyIn r x = key_bytes r ≡ flat (spelled key x)

abbrev pub IsSignatureIn : SignatureRef → Signature → Type 0
IsSignatureIn r g = signature_bytes r ≡ flat (signature g)

-- Each part is the one of the certificate, spelled as the choices say.
pub record AreCertificateParts (p : Parts) (x : SignedFields × CertificateChoices) : Type 0 where
  pub name : p.name.now ≡ certificate_name (key_algorithm x.0.key)
  pub nonce : p.nonce.now ≡ x.0.nonce
  pub key : p.key.now ≡ flat (body x.0.key)
  pub serial : p.serial ≡ x.0.serial
  pub cert_type : type_of p.cert_type ≡ x.0.certificate_type
  pub key_id : p.key_id.now ≡ x.0.key_id
  pub valid_principals : texts_of p.valid_principals ≡ x.0.valid_principals
  pub valid_after : time_of p.valid_after ≡ x.0.valid_after
  pub valid_before : end_of p.valid_before ≡ x.0.valid_before
  pub critical_options : spelled_options_of p.critical_options ≡ (x.0.critical_options, x.1.critical_options)
  pub extensions : spelled_options_of p.extensions ≡ (x.0.extensions, x.1.extensions)
  pub reserved : p.reserved.now ≡ x.0.reserved
  pub signature_key : IsKeyIn p.signature_key (x.0.signature_key, x.1.signature_key)
