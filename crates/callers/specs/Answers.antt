-- What a verifier accepts that was told which signatures are verified.
use Rattle.std.specs.Prelude.{Bool, false, ◌&&◌, bytes_eq, ℕ, List, [], ◌∷◌, if◌then◌else◌, replicate}
use Rattle.ssh_key.specs.base.Names.{algorithm_of}
use Rattle.ssh_key.specs.keys.Keys.{key_of}
use Rattle.ssh_key.specs.model.Keys.{Key, Ecdsa, Ed25519, Rsa}
use Rattle.ssh_key.specs.model.Names.{algorithm_name}
use Rattle.ssh_key.specs.model.Points.{curve_eq}
use Rattle.ssh_key.specs.model.Verification.{Question}
use Rattle.callers.specs.declared.verified.Verified.{Verified}
use Rattle.callers.specs.declared.hashes.Hashed.{Hashed}

-- the same Ed25519, ECDSA or RSA key
abbrev pub same_key : Key → Key → Bool
same_key (Ed25519 j) (Ed25519 k) = bytes_eq j k
same_key (Ecdsa c p) (Ecdsa d q) = curve_eq c d && bytes_eq p q
same_key (Rsa j) (Rsa k) = bytes_eq j.e k.e && bytes_eq j.n k.n
same_key _ _ = false

-- The question is about that signature.
abbrev pub is_about : Verified → Question → Bool
is_about v q = bytes_eq (algorithm_name (algorithm_of v.algorithm)) (algorithm_name q.algorithm) && same_key (key_of v.key) q.key && bytes_eq v.message.items q.message && bytes_eq v.signature.items q.blob

-- What is known of HMAC-SHA1 by whoever was told some hashes.

abbrev pub is_hash_of : List ℕ → List ℕ → Hashed → Bool
is_hash_of salt name h = bytes_eq h.salt.items salt && bytes_eq h.name.items name

-- the first that is told, or zeros
abbrev pub hash_among : List ℕ → List ℕ → List Hashed → List ℕ
hash_among salt name [] = replicate 20 0
hash_among salt name (h ∷ hs) = if is_hash_of salt name h then h.hash else hash_among salt name hs
