-- The key of the authority, with the choice of its spelling.
use Rattle.std.specs.Prelude.{[], ℕ, List}
use Rattle.sshkey_model.specs.Keys.{Head, Key, Opaque, Plain, key_at, spelled_key_format}
use Rattle.sshkey_model.specs.Reading.{whole}
use Rattle.sshkey_model.specs.Formats.{Format}
use Rattle.sshkey_model.specs.Terms.{boxed}
use Rattle.sshkey_keys_ref.specs.Keys.{key_bytes}
use Rattle.sshkey_keys_ref.specs.declared.key_data_ref.KeyDataRef.{KeyDataRef}
use Rattle.sshkey_terms.specs.Slices.{found_or}
use Rattle.sshkey_model.specs.CertificateNames.{certified_from}
use Rattle.sshkey_model.specs.Certificates.{Certificate, CertificateChoices, SignedFields, User, certificate_at}
use Rattle.sshkey_model.specs.Names.{Algorithm, Dsa}

-- a key in a string, and how its name is spelled
abbrev pub boxed_key_format : Format (Key × Head)
boxed_key_format = boxed spelled_key_format

-- what stands for the key of bytes that spell none
abbrev pub no_key : Key × Head
no_key = (Opaque [] [], Plain)

-- the key that the bytes spell, and how its name is spelled there
abbrev pub spelled_key_of : KeyDataRef → Key × Head
spelled_key_of r = found_or no_key (whole key_at (key_bytes r))

-- The certificate that bytes spell (PROTOCOL.certkeys).

-- what stands for the certificate of bytes that spell none
abbrev pub no_certificate : Certificate
no_certificate = record {
  signed = record { nonce = []; key = Opaque [] []; serial = 0; certificate_type = User; key_id = []; valid_principals = []; valid_after = 0; valid_before = 0; critical_options = []; extensions = []; reserved = []; signature_key = Opaque [] [] };
  signature = record { algorithm = Dsa; blob = [] };
}

abbrev pub no_choices : CertificateChoices
no_choices = record { critical_options = []; extensions = []; signature_key = Plain }

-- the certificate that all the bytes spell, and the choices of its spelling
unfoldable pub spelled_in : List ℕ → Certificate × CertificateChoices
spelled_in b = found_or (no_certificate, no_choices) (whole certificate_at b)

-- all of it before the signature
abbrev pub fields_in : List ℕ → SignedFields × CertificateChoices
fields_in b = ((spelled_in b).0.signed, (spelled_in b).1)

-- the algorithm that a name in certificates tells
abbrev pub certified_in : List ℕ → Algorithm
certified_in name = found_or Dsa (certified_from name)
