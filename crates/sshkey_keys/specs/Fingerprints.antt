-- What is said of a key's fingerprint.
use Rattle.std.specs.Prelude.{Result}
use Rattle.sshkey_model.specs.Keys.{Key, normal_key}
use Rattle.sshkey_model.specs.Names.{Hash}
use Rattle.sshkey_base.specs.declared.error.Error.{Error}
use Rattle.sshkey_fingerprints.specs.Fingerprints.{IsDigestOf, GivesDigest, AreShort}
use Rattle.sshkey_fingerprints.specs.declared.fingerprint.Fingerprint.{Fingerprint}

-- It is the key's, by that hash.
abbrev pub IsFingerprint : Hash → Key → Fingerprint → Type 0
IsFingerprint h k = IsDigestOf h (normal_key k)

-- Its normal form has at most 256 bytes.
abbrev pub IsShort : Key → Type 0
IsShort k = AreShort (normal_key k)

-- It is that fingerprint. Exactly where a part of the key is too long, it is `Length`, and else it
-- is refused only when out of memory.
abbrev pub GivesFingerprint : Hash → Key → Result Fingerprint Error → Type 0
GivesFingerprint h k = GivesDigest h (normal_key k)
