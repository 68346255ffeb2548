-- Fingerprints of public keys (FIPS 180-4; unpadded Base64, RFC 4648, section 3.2).
use Rattle.std.specs.Prelude.{ℕ, List, ◌++◌, Bool, true, false, ◌&&◌, bytes_eq, codes}
use Rattle.base64.specs.Engines.{standard_no_pad}
use Rattle.base64.specs.GeneralPurpose.{encode_of}
use Rattle.sha2.specs.Sha256.{sha256}
use Rattle.sha2.specs.Sha512.{sha512}
use Rattle.sshkey_model.specs.Parts.{flat}
use Rattle.sshkey_model.specs.Names.{Hash, Sha256, Sha512}
use Rattle.sshkey_model.specs.Keys.{Key, normal_key}

abbrev pub digest : Hash → List ℕ → List ℕ
digest Sha256 bytes = sha256 bytes
digest Sha512 bytes = sha512 bytes

-- A digest, and the hash that it is by.
pub record Fingerprint : Type 0 where
  pub hash : Hash
  pub digest : List ℕ

-- The digest of the key's normal form, whatever bytes it was read from.
abbrev pub fingerprint : Hash → Key → Fingerprint
fingerprint h k = record { hash = h; digest = digest h (flat (normal_key k)) }

abbrev pub same_hash : Hash → Hash → Bool
same_hash Sha256 Sha256 = true
same_hash Sha256 _ = false
same_hash Sha512 Sha512 = true
same_hash Sha512 _ = false

abbrev pub same_fingerprint : Fingerprint → Fingerprint → Bool
same_fingerprint f g = same_hash f.hash g.hash && bytes_eq f.digest g.digest

abbrev pub fingerprint_prefix : Hash → List ℕ
fingerprint_prefix Sha256 = codes "SHA256:"
fingerprint_prefix Sha512 = codes "SHA512:"

-- how a digest is shown
abbrev pub digest_text : Hash → List ℕ → List ℕ
digest_text h d = fingerprint_prefix h ++ encode_of standard_no_pad d

abbrev pub fingerprint_text : Hash → Key → List ℕ
fingerprint_text h k = digest_text h (fingerprint h k).digest
