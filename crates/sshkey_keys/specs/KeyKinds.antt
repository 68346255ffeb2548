-- Kinds of keys.
use Rattle.std.specs.Prelude.{Bool, true, false, ◌||◌}
use Rattle.sshkey_model.specs.Names as names
use Rattle.sshkey_model.specs.Keys.{Key, Dsa, Ecdsa, Ed25519, Rsa, SkEcdsa, SkEd25519, Opaque}

abbrev pub is_dsa : Key → Bool
is_dsa (Dsa k) = true
is_dsa _ = false

abbrev pub is_ecdsa : Key → Bool
is_ecdsa (Ecdsa c point) = true
is_ecdsa _ = false

abbrev pub is_ed25519 : Key → Bool
is_ed25519 (Ed25519 k) = true
is_ed25519 _ = false

abbrev pub is_rsa : Key → Bool
is_rsa (Rsa k) = true
is_rsa _ = false

abbrev pub is_sk_ecdsa : Key → Bool
is_sk_ecdsa (SkEcdsa k) = true
is_sk_ecdsa _ = false

abbrev pub is_sk_ed25519 : Key → Bool
is_sk_ed25519 (SkEd25519 k) = true
is_sk_ed25519 _ = false

-- a key that a security key holds
abbrev pub is_security_key : Key → Bool
is_security_key k = is_sk_ecdsa k || is_sk_ed25519 k

abbrev pub is_opaque : Key → Bool
is_opaque (Opaque name k) = true
is_opaque _ = false

-- An opaque key that stands under this algorithm has the algorithm's name in certificates, too.
abbrev pub keeps_name : names.Algorithm → Bool
keeps_name names.Dsa = true
keeps_name (names.Ecdsa c) = true
keeps_name names.Ed25519 = true
keeps_name (names.Rsa hash) = true
keeps_name names.SkEcdsa = false
keeps_name names.SkEd25519 = false
keeps_name (names.Other n) = false
