-- What a walk over a list asks of each part of it: about one or two keys, and perhaps about a
-- certificate that the second has signed.
use Rattle.std.specs.Prelude.{ℕ, List, [], Bool, false, ◌&&◌, ◌||◌, bytes_eq, Option, Some, None, is_some, ◌==◌}
use Rattle.std.specs.List.{list_any}
use Rattle.sha1.specs.Sha1.{sha1}
use Rattle.sha2.specs.Sha256.{sha256}
use Rattle.sshkey_krl.specs.Revocation.{Authority, CertificateIdentity, Certificates, Keys, Part, Section, Sha1s, Sha256s, has_certificate, is_by, without_zero}
use Rattle.sshkey_krl.specs.declared.query.CertificateIdentity as code_identity
use Rattle.sshkey_krl.specs.declared.query.Query as code_query

-- the bytes of the two keys; the serial number, and the key id without a zero byte at its end
pub record Query : Type 0 where
  pub key : List ℕ
  pub signer : List ℕ
  pub certificate : Option (ℕ × List ℕ)

abbrev certificate_of : Option code_identity.CertificateIdentity → Option (ℕ × List ℕ)
certificate_of None = None
certificate_of (Some c) = Some (c.number, c.key_id.now)

abbrev pub key_query : List ℕ → Query
key_query bytes = record { key = bytes; signer = bytes; certificate = None }

abbrev pub certificate_query : List ℕ → List ℕ → ℕ → List ℕ → Query
certificate_query key signer serial key_id = record { key = key; signer = signer; certificate = Some (serial, without_zero key_id) }

-- the key itself where no certificate is asked about
abbrev signer_of : List ℕ → Option code_identity.CertificateIdentity → List ℕ
signer_of key None = key
signer_of key (Some c) = c.signer.bytes.now

abbrev pub query_of : code_query.Query → Query
query_of q = record { key = q.key.bytes.now; signer = signer_of q.key.bytes.now q.certificate; certificate = certificate_of q.certificate }

-- the number 0 and no key id where no certificate is asked about
abbrev serial_of : Option (ℕ × List ℕ) → ℕ
serial_of None = 0
serial_of (Some c) = c.0

abbrev key_id_of : Option (ℕ × List ℕ) → List ℕ
key_id_of None = []
key_id_of (Some c) = c.1

abbrev pub identity_in : Query → CertificateIdentity
identity_in q = record { signer = q.signer; serial = serial_of q.certificate; key_id = key_id_of q.certificate }

abbrev pub key_says : Query → List ℕ → Bool
key_says q key = bytes_eq q.key key || bytes_eq q.signer key

abbrev pub sha1_says : Query → List ℕ → Bool
sha1_says q digest = bytes_eq (sha1 q.key) digest || bytes_eq (sha1 q.signer) digest

abbrev pub sha256_says : Query → List ℕ → Bool
sha256_says q digest = bytes_eq (sha256 q.key) digest || bytes_eq (sha256 q.signer) digest

abbrev pub part_says : Query → Part → Bool
part_says q = has_certificate (identity_in q)

abbrev pub serial_says : Query → ℕ → Bool
serial_says q n = n == serial_of q.certificate

abbrev pub key_id_says : Query → List ℕ → Bool
key_id_says q text = bytes_eq (key_id_of q.certificate) text

abbrev authority_says_of : List ℕ → Option (ℕ × List ℕ) → Authority → Bool
authority_says_of signer None authority = false
authority_says_of signer (Some c) authority = is_by signer authority

abbrev pub authority_says : Query → Authority → Bool
authority_says q = authority_says_of q.signer q.certificate

-- A certificate is asked about, which the key of those bytes has signed.
abbrev pub signer_says : Query → List ℕ → Bool
signer_says q bytes = is_some q.certificate && bytes_eq q.signer bytes

abbrev pub says : Query → Section → Bool
says q (Certificates authority parts) = authority_says q authority && list_any (part_says q) parts
says q (Keys keys) = list_any (key_says q) keys
says q (Sha1s digests) = list_any (sha1_says q) digests
says q (Sha256s digests) = list_any (sha256_says q) digests
