-- Worked examples: private keys, read.
use Rattle.std.specs.Prelude.{◌≡◌, ℕ, List, [], ◌∷◌, ◌++◌, length, replicate, Ok, Err, codes}
use Rattle.sshkey_model.specs.Parts.{flat}
use Rattle.sshkey_model.specs.Reading.{Length, FormatEncoding, Crypto, PublicKey, TrailingData, TrailingKeyData, whole}
use Rattle.sshkey_model.specs.Keys.{Ed25519}
use Rattle.sshkey_model.specs.KeyDerivation.{Aes256Ctr, Bcrypt}
use Rattle.sshkey_model.specs.PrivateKeys.{PrivateKey, Encrypted, normal_private_key}
use Rattle.sshkey_model.specs.PrivateExamples.{short_string, example_public, example_key_bytes, pair_bytes, example_key, part_bytes, one, example_bytes}
use Rattle.sshkey_ciphers.specs.CipherExamples.{no_kdf_bytes}
use Rattle.sshkey_private.specs.PrivateParts.{inner_at, padded_below}
use Rattle.sshkey_private.specs.PrivateKeyFormats.{private_value_at}

abbrev pub ReadKey : Type 0
ReadKey = (whole private_value_at example_bytes ≡ Ok example_key) × (whole private_value_at (example_bytes ++ 0 ∷ []) ≡ Err (TrailingData 1))
    × (private_value_at (example_bytes ++ 0 ∷ []) ≡ Ok (example_key, 0 ∷ []))

-- a checkint that is not repeated, a pair of another public key, a part that is no multiple of 8
abbrev pub RefusedParts : Type 0
RefusedParts = (padded_below 8 (inner_at (Ed25519 example_public)) (part_bytes one (2 ∷ 0 ∷ 0 ∷ 0 ∷ []) (1 ∷ 2 ∷ 3 ∷ 4 ∷ 5 ∷ [])) ≡ Err Crypto)
    × (padded_below 8 (inner_at (Ed25519 (replicate 32 0))) (part_bytes one one (1 ∷ 2 ∷ 3 ∷ 4 ∷ 5 ∷ [])) ≡ Err PublicKey)
    × (padded_below 8 (inner_at (Ed25519 example_public)) (part_bytes one one (1 ∷ 2 ∷ 3 ∷ 4 ∷ [])) ≡ Err Length)

-- another magic, two keys, no key, and too few bytes
abbrev pub RefusedFronts : Type 0
RefusedFronts = (private_value_at (codes "openssh-key-v2" ++ 0 ∷ []) ≡ Err FormatEncoding)
    × (private_value_at (codes "openssh-key-v1" ++ 0 ∷ [] ++ short_string 4 (codes "none") ++ no_kdf_bytes 0 ++ 0 ∷ 0 ∷ 0 ∷ 2 ∷ []) ≡ Err Length)
    × (private_value_at (codes "openssh-key-v1" ++ 0 ∷ [] ++ short_string 4 (codes "none") ++ no_kdf_bytes 0 ++ 0 ∷ 0 ∷ 0 ∷ 0 ∷ []) ≡ Err Length)
    × (private_value_at (codes "openssh-key-v1") ≡ Err Length)

-- a wrong last byte of the padding, a block of it too much, and a whole block where none is wanted
abbrev pub RefusedPaddings : Type 0
RefusedPaddings = (padded_below 8 (inner_at (Ed25519 example_public)) (part_bytes one one (1 ∷ 2 ∷ 3 ∷ 4 ∷ 6 ∷ [])) ≡ Err FormatEncoding)
    × (padded_below 8 (inner_at (Ed25519 example_public)) (part_bytes one one (1 ∷ 2 ∷ 3 ∷ 4 ∷ 5 ∷ 6 ∷ 7 ∷ 8 ∷ 9 ∷ 10 ∷ 11 ∷ 12 ∷ 13 ∷ [])) ≡ Err Length)
    × (padded_below 8 (inner_at (Ed25519 example_public)) (one ++ one ++ short_string 11 (codes "ssh-ed25519") ++ pair_bytes example_public ++ short_string 5 (replicate 5 0x78) ++ 1 ∷ 2 ∷ 3 ∷ 4 ∷ 5 ∷ 6 ∷ 7 ∷ 8 ∷ []) ≡ Err Length)

-- ---- encrypted keys

abbrev pub sealed_key : List ℕ → PrivateKey
sealed_key ciphertext = Encrypted (record { cipher = Aes256Ctr; kdf = Bcrypt (record { salt = replicate 16 0x11; rounds = 16 }); public = Ed25519 example_public; ciphertext = ciphertext; tag = [] })

abbrev pub sealed_bytes : List ℕ → List ℕ → List ℕ
sealed_bytes name ciphertext = codes "openssh-key-v1" ++ 0 ∷ [] ++ name ++ short_string 6 (codes "bcrypt") ++ short_string 24 (short_string 16 (replicate 16 0x11)) ++ 0 ∷ 0 ∷ 0 ∷ 16 ∷ 0 ∷ 0 ∷ 0 ∷ 1 ∷ [] ++ short_string 51 example_key_bytes ++ ciphertext

abbrev pub aes256_ctr : List ℕ
aes256_ctr = short_string 10 (codes "aes256-ctr")

abbrev pub block : List ℕ
block = short_string 16 (replicate 16 0)

abbrev pub EncryptedKeys : Type 0
EncryptedKeys = (flat (normal_private_key (sealed_key (replicate 16 0))) ≡ sealed_bytes aes256_ctr block) × (length (sealed_bytes aes256_ctr block) ≡ 146)
    × (whole private_value_at (sealed_bytes aes256_ctr block) ≡ Ok (sealed_key (replicate 16 0)))
    × (whole private_value_at (sealed_bytes aes256_ctr (short_string 0 [])) ≡ Ok (sealed_key []))

-- 15 bytes of ciphertext, a byte after the key, and the cipher `none` with a key derivation
abbrev pub RefusedEncryptedKeys : Type 0
RefusedEncryptedKeys = (private_value_at (sealed_bytes aes256_ctr (short_string 15 (replicate 15 0))) ≡ Err Crypto)
    × (private_value_at (sealed_bytes aes256_ctr (block ++ 0 ∷ [])) ≡ Err (TrailingKeyData 1))
    × (private_value_at (sealed_bytes (short_string 4 (codes "none")) block) ≡ Err Crypto)

-- 16 bytes, no fewer, follow the ciphertext of an authenticating cipher
abbrev pub Tags : Type 0
Tags = (private_value_at (sealed_bytes (short_string 22 (codes "aes256-gcm@openssh.com")) (block ++ replicate 15 7)) ≡ Err Length)
    × (private_value_at (sealed_bytes (short_string 22 (codes "aes256-gcm@openssh.com")) (block ++ replicate 17 7)) ≡ Err (TrailingKeyData 1))
