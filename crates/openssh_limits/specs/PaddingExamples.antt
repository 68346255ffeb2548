-- Worked examples: RSA signatures that are shorter than the modulus, as long, and longer.
use Rattle.std.specs.Prelude.{◌≡◌, ℕ, List, [], ◌∷◌, Some, true, bytes_eq, replicate}
use Rattle.sshkey_model.specs.Keys.{Key, Rsa, Ed25519}
use Rattle.sshkey_model.specs.Names.{Sha256, Algorithm}
use Rattle.openssh_limits.specs.Padding.{missing_zeros, padded_blob, padding}

abbrev with_modulus : List ℕ → Key
with_modulus n = Rsa (record { e = 1 ∷ 0 ∷ 1 ∷ []; n = n })

-- a modulus of two bytes whose first bit is set, so that a 00 stands in front; and one of two bytes
-- without
abbrev caf1 : Key
caf1 = with_modulus (0 ∷ 0xca ∷ 0xf1 ∷ [])

abbrev of_4af1 : Key
of_4af1 = with_modulus (0x4a ∷ 0xf1 ∷ [])

abbrev of_2048_bytes : Key
of_2048_bytes = with_modulus (0 ∷ 0x80 ∷ replicate 2047 0)

abbrev of_2049_bytes : Key
of_2049_bytes = with_modulus (1 ∷ replicate 2048 0)

-- As many bytes as the modulus has; a longer signature stays as it is, and so does each under
-- another key, a modulus that is not positive, or one of more than 2,048 bytes.
abbrev pub PaddedSignatures : Type 0
PaddedSignatures = (padded_blob caf1 (7 ∷ []) ≡ 0 ∷ 7 ∷ [])
    × (padded_blob of_4af1 [] ≡ 0 ∷ 0 ∷ [])
    × (padded_blob caf1 (0x12 ∷ 0x34 ∷ []) ≡ 0x12 ∷ 0x34 ∷ [])
    × (padded_blob caf1 (0 ∷ 0x12 ∷ 0x34 ∷ []) ≡ 0 ∷ 0x12 ∷ 0x34 ∷ [])
    × (missing_zeros of_2048_bytes (replicate 2047 7) ≡ 1)
    × (missing_zeros of_2049_bytes (replicate 2048 7) ≡ 0)
    × (padded_blob (with_modulus []) (7 ∷ []) ≡ 7 ∷ [])
    × (padded_blob (with_modulus (0xed ∷ 0xcc ∷ [])) (7 ∷ []) ≡ 7 ∷ [])
    × (padded_blob (Ed25519 (replicate 32 1)) (7 ∷ []) ≡ 7 ∷ [])
    × (padding (λ q. bytes_eq q.blob (0 ∷ 7 ∷ [])) (record { algorithm = Algorithm.Rsa (Some Sha256); key = caf1; message = []; blob = 7 ∷ [] }) ≡ true)
