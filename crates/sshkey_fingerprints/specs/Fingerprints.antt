-- What a fingerprint's value means.
use Rattle.std.specs.Prelude.{◌≡◌, ◌≤◌, ◌⊎◌, ◌∷◌, ℕ, List, length, Result, Ok, Err}
use Rattle.sshkey_model.specs.Fingerprints.{digest_text}
use Rattle.sshkey_model.specs.Fingerprints as model
use Rattle.sshkey_model.specs.Names.{Hash}
use Rattle.sshkey_model.specs.Names as names
use Rattle.sshkey_model.specs.Parts.{Parts, BoxesFit, flat}
use Rattle.sshkey_base.specs.declared.encoding.Error.TheVariants.{Length}
use Rattle.sshkey_base.specs.declared.error.Error.{Error}
use Rattle.sshkey_base.specs.declared.error.Error.TheVariants.{Encoding, Memory}
use Rattle.sshkey_fingerprints.specs.declared.fingerprint.Fingerprint.{Fingerprint}
use Rattle.sshkey_fingerprints.specs.declared.fingerprint.Fingerprint.TheVariants as kinds

abbrev pub fingerprint_hash : Fingerprint → Hash
fingerprint_hash (kinds.Sha256 d) = names.Sha256
fingerprint_hash (kinds.Sha512 d) = names.Sha512

abbrev pub digest_of : Fingerprint → List ℕ
digest_of (kinds.Sha256 d) = d
digest_of (kinds.Sha512 d) = d

-- what it is ordered by: SHA-256 before SHA-512, and then the digest
abbrev pub fingerprint_key : Fingerprint → List ℕ
fingerprint_key (kinds.Sha256 d) = 0 ∷ d
fingerprint_key (kinds.Sha512 d) = 1 ∷ d

-- what it is shown as
abbrev pub shown : Fingerprint → List ℕ
shown f = digest_text (fingerprint_hash f) (digest_of f)

-- It is the digest of the parts' bytes, by that hash.
pub record IsDigestOf (h : Hash) (p : Parts) (f : Fingerprint) : Type 0 where
  pub by : fingerprint_hash f ≡ h
  pub digest : digest_of f ≡ model.digest h (flat p)

-- They have at most 256 bytes.
abbrev pub AreShort : Parts → Type 0
AreShort p = length (flat p) ≤ 256

-- It is that digest. Exactly where a box of the parts is too long, it is `Length`, and else it is
-- refused only when out of memory.
abbrev pub GivesDigest : Hash → Parts → Result Fingerprint Error → Type 0
GivesDigest h p (Ok f) = IsDigestOf h p f
GivesDigest h p (Err e) = ((BoxesFit p → ⊥) × (e ≡ Encoding Length)) ⊎ (BoxesFit p × (e ≡ Memory))
