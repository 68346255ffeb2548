-- Which texts are those of fingerprints, and why others are refused (unpadded Base64, RFC 4648,
-- sections 3.2 and 3.5).
use Rattle.std.specs.Prelude.{◌≡◌, ◌≢◌, ◌<◌, ◌≤◌, ◌⊎◌, ◌++◌, ℕ, List, length, Result, Ok, Err}
use Rattle.base64.specs.Engines.{standard_no_pad}
use Rattle.base64.specs.GeneralPurpose.{IsBytes, encode_of}
use Rattle.sshkey_model.specs.Fingerprints.{fingerprint_prefix}
use Rattle.sshkey_model.specs.Names.{Hash}
use Rattle.sshkey_base.specs.Digests.{digest_len}
use Rattle.sshkey_base.specs.declared.encoding.Error.TheVariants.{Base64, Length}
use Rattle.sshkey_base.specs.declared.error.Error.{Error}
use Rattle.sshkey_base.specs.declared.error.Error.TheVariants.{AlgorithmUnknown, Encoding}
use Rattle.sshkey_fingerprints.specs.Fingerprints.{fingerprint_hash, digest_of, shown}
use Rattle.sshkey_fingerprints.specs.declared.fingerprint.Fingerprint.{Fingerprint}

-- Its digest has bytes, as many as its hash gives: what every fingerprint of a program is.
pub record IsWhole (f : Fingerprint) : Type 0 where
  pub size : length (digest_of f) ≡ digest_len (fingerprint_hash f)
  pub bytes : IsBytes (digest_of f)

-- It is the text of no fingerprint.
abbrev pub IsNoFingerprint : List ℕ → Type 0
IsNoFingerprint text = (f : Fingerprint) → IsWhole f → text ≡ shown f → ⊥

-- The text encodes these bytes, without padding and without a needless last bit.
pub record IsEncoded (text b : List ℕ) : Type 0 where
  pub bytes : IsBytes b
  pub is : text ≡ encode_of standard_no_pad b

-- Why it encodes no digest of that size: it is longer than the text of any digest; it is not
-- Base64; or of another size.
abbrev pub IsRefusedDigest : ℕ → List ℕ → Error → Type 0
IsRefusedDigest size text e =
    ((86 < length text) × (e ≡ Encoding Length))
    ⊎ ((length text ≤ 86) × ((b : List ℕ) → IsEncoded text b → ⊥) × (e ≡ Encoding Base64))
    ⊎ ((length text ≤ 86) × ((b : List ℕ) × IsEncoded text b × (length b ≢ size)) × (e ≡ Encoding Length))

-- The name of no hash stands in front with a colon; or why no digest by that hash follows it.
abbrev pub IsRefusedText : List ℕ → Error → Type 0
IsRefusedText text e =
    (((h : Hash) (rest : List ℕ) → text ≢ fingerprint_prefix h ++ rest) × (e ≡ AlgorithmUnknown))
    ⊎ ((h : Hash) × (rest : List ℕ) × (text ≡ fingerprint_prefix h ++ rest) × IsRefusedDigest (digest_len h) rest e)

-- Accepted, it is the text of that fingerprint. Refused, it is the text of none, for that reason.
abbrev pub ReadsFingerprint : List ℕ → Result Fingerprint Error → Type 0
ReadsFingerprint text (Ok f) = text ≡ shown f
ReadsFingerprint text (Err e) = IsNoFingerprint text × IsRefusedText text e

-- the same for what follows the colon
abbrev pub ReadsDigest : ℕ → List ℕ → Result (List ℕ) Error → Type 0
ReadsDigest size text (Ok d) = text ≡ encode_of standard_no_pad d
ReadsDigest size text (Err e) = IsRefusedDigest size text e

-- the same of bytes that were decoded
abbrev pub IsSized : ℕ → List ℕ → Result (List ℕ) Error → Type 0
IsSized size bytes (Ok d) = d ≡ bytes
IsSized size bytes (Err e) = (length bytes ≢ size) × (e ≡ Encoding Length)
