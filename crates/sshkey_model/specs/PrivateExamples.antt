-- Worked examples of ciphers, key pairs and private keys.
use Rattle.std.specs.Prelude.{◌≡◌, ℕ, List, [], ◌∷◌, ◌++◌, length, map, replicate, true, false, Some, None, Ok, Err, codes}
use Rattle.sshkey_model.specs.Parts.{flat}
use Rattle.sshkey_model.specs.Reading.{Length, FormatEncoding, AlgorithmUnknown, Crypto, TrailingData}
use Rattle.sshkey_model.specs.Names.{Nistp256, Nistp384, Algorithm}
use Rattle.sshkey_model.specs.Keys.{SecurityKey, Head512}
use Rattle.sshkey_model.specs.KeyDerivation.{Cipher, cipher_name, ciphers, block_size, tag_size, padding_length}
use Rattle.sshkey_model.specs.KeyPairs.{SecurityPrivate, pair, Plain, WithoutZero, WithZero, Short, is_high, scalar, scalar_at, KeyPair, DsaPair, EcdsaPair, Ed25519Pair, RsaPair, SkEcdsaPair, SkEd25519Pair, OpaquePair, pair_at, keypair_at, normal_keypair, derived_checkint, written_checkint}
use Rattle.sshkey_model.specs.PrivateKeys.{PrivateKey, new_private_key, normal_private_key, padding}

-- ---- ciphers

abbrev pub row : Cipher → List ℕ × (ℕ × ℕ)
row c = (cipher_name c, (block_size c, tag_size c))

-- name, bytes of a block, bytes of a tag
abbrev pub CipherTable : Type 0
CipherTable = map row ciphers ≡
    (codes "none", (8, 0)) ∷ (codes "3des-cbc", (8, 0))
    ∷ (codes "aes128-cbc", (16, 0)) ∷ (codes "aes192-cbc", (16, 0)) ∷ (codes "aes256-cbc", (16, 0))
    ∷ (codes "aes128-ctr", (16, 0)) ∷ (codes "aes192-ctr", (16, 0)) ∷ (codes "aes256-ctr", (16, 0))
    ∷ (codes "aes128-gcm@openssh.com", (16, 16)) ∷ (codes "aes256-gcm@openssh.com", (16, 16)) ∷ (codes "chacha20-poly1305@openssh.com", (8, 16)) ∷ []

-- a multiple of the block needs none, one byte less needs one, one byte more needs the most
abbrev pub PaddingLengths : Type 0
PaddingLengths = (padding_length 8 136 ≡ 0) × (padding_length 8 135 ≡ 1) × (padding_length 8 137 ≡ 7) × (padding_length 8 0 ≡ 0)
    × (padding_length 16 32 ≡ 0) × (padding_length 16 31 ≡ 1) × (padding_length 16 33 ≡ 15)

-- ---- private scalars

-- the first bit is set from 80 on
abbrev pub FirstBits : Type 0
FirstBits = (is_high (0x7f ∷ []) ≡ false) × (is_high (0x80 ∷ []) ≡ true) × (is_high [] ≡ false)

abbrev pub low_scalar : List ℕ
low_scalar = 0x7f ∷ replicate 31 1

abbrev pub high_scalar : List ℕ
high_scalar = 0x80 ∷ replicate 31 1

-- a string that states `n` bytes
abbrev pub short_string : ℕ → List ℕ → List ℕ
short_string n b = 0 ∷ 0 ∷ 0 ∷ n ∷ b

-- written with 00 before them exactly if the first bit is set
abbrev pub WrittenScalars : Type 0
WrittenScalars = (flat (scalar low_scalar Plain) ≡ short_string 32 low_scalar) × (flat (scalar high_scalar Plain) ≡ short_string 33 (0 ∷ high_scalar))
    × (flat (scalar (replicate 32 0xff) Plain) ≡ short_string 33 (0 ∷ replicate 32 0xff)) × (flat (scalar (replicate 32 1) Plain) ≡ short_string 32 (replicate 32 1))

-- read with that 00 and without it
abbrev pub ReadScalars : Type 0
ReadScalars = (scalar_at 32 (short_string 32 low_scalar) ≡ Ok ((low_scalar, Plain), [])) × (scalar_at 32 (short_string 33 (0 ∷ low_scalar)) ≡ Ok ((low_scalar, WithZero), []))
    × (scalar_at 32 (short_string 32 high_scalar) ≡ Ok ((high_scalar, WithoutZero), [])) × (scalar_at 32 (short_string 33 (0 ∷ high_scalar)) ≡ Ok ((high_scalar, Plain), []))
    × (scalar_at 32 (short_string 32 (replicate 32 0xff)) ≡ Ok ((replicate 32 0xff, WithoutZero), [])) × (scalar_at 32 (short_string 33 (0 ∷ replicate 32 1)) ≡ Ok ((replicate 32 1, WithZero), []))

-- the shortest mpint, zero included, is read at full width
abbrev pub ReadShortScalars : Type 0
ReadShortScalars = (scalar_at 32 (short_string 31 (replicate 31 1)) ≡ Ok ((0 ∷ replicate 31 1, Short), [])) × (scalar_at 32 (short_string 0 []) ≡ Ok ((replicate 32 0, Short), []))
    × (scalar_at 32 (short_string 2 (0 ∷ 0x80 ∷ [])) ≡ Ok ((replicate 31 0 ++ 0x80 ∷ [], Short), [])) × (scalar_at 32 (short_string 32 (0 ∷ replicate 31 0x80)) ≡ Ok ((0 ∷ replicate 31 0x80, Plain), []))
    × (scalar_at 32 (short_string 31 (0x7f ∷ replicate 30 1)) ≡ Ok ((0 ∷ 0x7f ∷ replicate 30 1, Short), []))
    × (flat (scalar (replicate 31 0 ++ 0x80 ∷ []) Short) ≡ short_string 2 (0 ∷ 0x80 ∷ [])) × (flat (scalar (replicate 32 0) Short) ≡ short_string 0 [])

-- negative mpints and no mpints, 33 and 34 bytes
abbrev pub RefusedScalars : Type 0
RefusedScalars = (scalar_at 32 (short_string 31 (replicate 31 0xff)) ≡ Err FormatEncoding) × (scalar_at 32 (short_string 1 (0 ∷ [])) ≡ Err FormatEncoding) × (scalar_at 32 (short_string 2 (0 ∷ 0x7f ∷ [])) ≡ Err FormatEncoding)
    × (scalar_at 32 (short_string 31 (0x80 ∷ replicate 30 1)) ≡ Err FormatEncoding)
    × (scalar_at 32 (short_string 33 (replicate 33 1)) ≡ Err FormatEncoding) × (scalar_at 32 (short_string 34 (replicate 34 0)) ≡ Err (TrailingData 2))

-- ---- key pairs

abbrev pub example_public : List ℕ
example_public = 0xb3 ∷ 0x3e ∷ 0xae ∷ 0xf3 ∷ 0x7e ∷ 0xa2 ∷ 0xdf ∷ 0x7c ∷ 0xaa ∷ 0x01 ∷ 0x0d ∷ 0xef ∷ 0xde ∷ 0xa3 ∷ 0x4e ∷ 0x24 ∷ 0x1f ∷ 0x65 ∷ 0xf1 ∷ 0xb5 ∷ 0x29 ∷ 0xa4 ∷ 0xf4 ∷ 0x3e ∷ 0xd1 ∷ 0x43 ∷ 0x27 ∷ 0xf5 ∷ 0xc5 ∷ 0x4a ∷ 0xab ∷ 0x62 ∷ []

abbrev pub example_private : List ℕ
example_private = 0x2b ∷ replicate 31 0x2a

abbrev pub example_pair : KeyPair
example_pair = Ed25519Pair example_public example_private

abbrev pub example_key_bytes : List ℕ
example_key_bytes = short_string 11 (codes "ssh-ed25519") ++ short_string 32 example_public

abbrev pub pair_bytes : List ℕ → List ℕ
pair_bytes again = short_string 32 example_public ++ short_string 64 example_private ++ again

-- the public bytes again, or others
abbrev pub Ed25519Pairs : Type 0
Ed25519Pairs = (pair_at Algorithm.Ed25519 (pair_bytes example_public) ≡ Ok ((example_pair, Plain), [])) × (pair_at Algorithm.Ed25519 (pair_bytes (replicate 32 0)) ≡ Err Crypto)

abbrev pub small_rsa_pair : KeyPair
small_rsa_pair = RsaPair (record { e = 3 ∷ []; n = 33 ∷ [] }) (record { d = 7 ∷ []; iqmp = 2 ∷ []; p = 11 ∷ []; q = 5 ∷ [] })

abbrev pub small_rsa_bytes : List ℕ
small_rsa_bytes = short_string 1 (33 ∷ []) ++ short_string 1 (3 ∷ []) ++ short_string 1 (7 ∷ []) ++ short_string 1 (2 ∷ []) ++ short_string 1 (11 ∷ []) ++ short_string 1 (5 ∷ [])

-- a pair of RSA under a name with a hash, and how it is written
abbrev pub RsaPairs : Type 0
RsaPairs = (keypair_at (short_string 12 (codes "rsa-sha2-512") ++ small_rsa_bytes) ≡ Ok ((small_rsa_pair, record { head = Head512; zeros = Plain }), []))
    × (flat (normal_keypair small_rsa_pair) ≡ short_string 7 (codes "ssh-rsa") ++ small_rsa_bytes)

abbrev pub p384_bytes : List ℕ → List ℕ
p384_bytes s = short_string 8 (codes "nistp384") ++ short_string 49 (2 ∷ replicate 48 1) ++ short_string 48 s

-- The stated curve and the point's are compared before the scalar is read, the algorithm's curve
-- after it.
abbrev pub EcdsaPairs : Type 0
EcdsaPairs = (pair_at (Algorithm.Ecdsa Nistp384) (p384_bytes (replicate 48 1)) ≡ Ok ((EcdsaPair Nistp384 (2 ∷ replicate 48 1) (replicate 48 1), Plain), []))
    × (pair_at (Algorithm.Ecdsa Nistp256) (p384_bytes (replicate 48 1)) ≡ Err AlgorithmUnknown)
    × (pair_at (Algorithm.Ecdsa Nistp256) (p384_bytes (replicate 47 1)) ≡ Err Length)
    × (pair_at (Algorithm.Ecdsa Nistp256) (short_string 8 (codes "nistp256") ++ short_string 49 (2 ∷ replicate 48 1)) ≡ Err AlgorithmUnknown)

abbrev pub small_dsa_pair : KeyPair
small_dsa_pair = DsaPair (record { p = 1 ∷ []; q = 2 ∷ []; g = 3 ∷ []; y = 4 ∷ [] }) (5 ∷ [])

abbrev pub small_security_key : List ℕ → SecurityKey
small_security_key key = record { key = key; application = codes "ssh:" }

abbrev pub small_security_private : SecurityPrivate
small_security_private = record { flags = 1; handle = 7 ∷ 8 ∷ []; reserved = 9 ∷ [] }

abbrev pub small_security_bytes : List ℕ
small_security_bytes = short_string 4 (codes "ssh:") ++ 1 ∷ [] ++ short_string 2 (7 ∷ 8 ∷ []) ++ short_string 1 (9 ∷ [])

-- the order of the parts of each kind
abbrev pub WrittenPairs : Type 0
WrittenPairs = (flat (pair small_dsa_pair Plain) ≡ short_string 1 (1 ∷ []) ++ short_string 1 (2 ∷ []) ++ short_string 1 (3 ∷ []) ++ short_string 1 (4 ∷ []) ++ short_string 1 (5 ∷ []))
    × (flat (pair (SkEcdsaPair (small_security_key (2 ∷ replicate 32 6)) small_security_private) Plain) ≡ short_string 8 (codes "nistp256") ++ short_string 33 (2 ∷ replicate 32 6) ++ small_security_bytes)
    × (flat (pair (SkEd25519Pair (small_security_key example_public) small_security_private) Plain) ≡ short_string 32 example_public ++ small_security_bytes)
    × (flat (pair (OpaquePair (codes "name@example.com") (1 ∷ []) (2 ∷ 3 ∷ [])) Plain) ≡ short_string 1 (1 ∷ []) ++ short_string 2 (2 ∷ 3 ∷ []))

-- ---- checkints

-- whole words of the private bytes; what is left of fewer than four bytes is left out
abbrev pub Checkints : Type 0
Checkints = (derived_checkint example_pair ≡ 0x01000000)
    × (derived_checkint (DsaPair (record { p = 1 ∷ []; q = 2 ∷ []; g = 3 ∷ []; y = 4 ∷ [] }) (0 ∷ 0x80 ∷ 1 ∷ 2 ∷ 3 ∷ [])) ≡ 0x00800102)
    × (derived_checkint (EcdsaPair Nistp256 (4 ∷ replicate 64 9) (0x80 ∷ 0 ∷ 0 ∷ 1 ∷ 0 ∷ 0 ∷ 3 ∷ 0 ∷ replicate 24 0)) ≡ 0x80000301)
    × (derived_checkint (RsaPair (record { e = 3 ∷ []; n = replicate 4 1 }) (record { d = 0 ∷ 0xff ∷ 1 ∷ 2 ∷ 0 ∷ 0xff ∷ 1 ∷ 0 ∷ []; iqmp = replicate 4 7; p = replicate 4 8; q = replicate 4 9 })) ≡ 2)
    × (derived_checkint (SkEd25519Pair (record { key = example_public; application = [] }) (record { flags = 1; handle = 1 ∷ 2 ∷ 3 ∷ 4 ∷ 5 ∷ []; reserved = replicate 4 9 })) ≡ 0x01020304)
    × (derived_checkint (SkEcdsaPair (record { key = 4 ∷ replicate 64 9; application = [] }) (record { flags = 1; handle = 1 ∷ 2 ∷ 3 ∷ []; reserved = replicate 4 9 })) ≡ 0)
    × (derived_checkint (OpaquePair (codes "name@example.com") (replicate 4 1) (0xff ∷ 0 ∷ 0 ∷ 0xff ∷ [])) ≡ 0xff0000ff)
    × (written_checkint None example_pair ≡ 0x01000000) × (written_checkint (Some 7) example_pair ≡ 7)

-- ---- unencrypted keys

abbrev pub example_key : PrivateKey
example_key = new_private_key example_pair []

-- what stands before the private part
abbrev pub front_bytes : List ℕ
front_bytes = codes "openssh-key-v1" ++ 0 ∷ [] ++ short_string 4 (codes "none") ++ short_string 4 (codes "none") ++ short_string 0 [] ++ 0 ∷ 0 ∷ 0 ∷ 1 ∷ [] ++ short_string 51 example_key_bytes

-- the two checkints, the pair with its name, an empty comment, and padding
abbrev pub part_bytes : List ℕ → List ℕ → List ℕ → List ℕ
part_bytes first second pad = first ++ second ++ short_string 11 (codes "ssh-ed25519") ++ pair_bytes example_public ++ short_string 0 [] ++ pad

abbrev pub one : List ℕ
one = 1 ∷ 0 ∷ 0 ∷ 0 ∷ []

abbrev pub example_bytes : List ℕ
example_bytes = front_bytes ++ 0 ∷ 0 ∷ 0 ∷ 0x88 ∷ [] ++ part_bytes one one (1 ∷ 2 ∷ 3 ∷ 4 ∷ 5 ∷ [])

-- 131 bytes and 5 of padding, 234 in all
abbrev pub WrittenKey : Type 0
WrittenKey = (flat (normal_private_key example_key) ≡ example_bytes) × (length example_bytes ≡ 234) × (length (part_bytes one one []) ≡ 131)

-- with a comment of 5 bytes no padding, with one of 6 bytes seven
abbrev pub commented_key : ℕ → PrivateKey
commented_key n = new_private_key example_pair (replicate n 0x78)

abbrev pub PaddingEdges : Type 0
PaddingEdges = (length (flat (normal_private_key (commented_key 5))) ≡ 234) × (length (flat (normal_private_key (commented_key 6))) ≡ 242)
    × (padding 136 ≡ []) × (padding 137 ≡ 1 ∷ 2 ∷ 3 ∷ 4 ∷ 5 ∷ 6 ∷ 7 ∷ []) × (padding 143 ≡ 1 ∷ [])
