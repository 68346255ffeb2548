-- Worked examples: public keys.
use Rattle.std.specs.Prelude.{◌≡◌, ℕ, List, [], ◌∷◌, ◌++◌, length, take, replicate, None, Ok, Err, codes}
use Rattle.sshkey_model.specs.HexText.{hex}
use Rattle.sshkey_model.specs.Parts.{flat}
use Rattle.sshkey_model.specs.Reading.{Fault, Length, CharacterEncoding, Label, TrailingData, FormatEncoding, AlgorithmUnknown, Crypto, whole}
use Rattle.sshkey_model.specs.Names.{Nistp256, Algorithm}
use Rattle.sshkey_model.specs.Keys.{Key, Dsa, Ecdsa, Ed25519, Rsa, SkEcdsa, SkEd25519, Opaque, Plain, Head256, Head512, key, normal_key, body, body_at, key_at}

-- ---- Ed25519

abbrev pub ed25519_point : List ℕ
ed25519_point = hex "b33eaef37ea2df7caa010defdea34e241f65f1b529a4f43ed14327f5c54aab62"

abbrev pub ed25519_key : Key
ed25519_key = Ed25519 ed25519_point

abbrev pub ed25519_bytes : List ℕ
ed25519_bytes = hex "0000000b 7373682d65643235353139 00000020" ++ ed25519_point

-- 51 bytes; one byte more is left over, or refused by who takes all; every byte less is too few.
abbrev pub Ed25519Keys : Type 0
Ed25519Keys = (length ed25519_bytes ≡ 51)
    × (flat (normal_key ed25519_key) ≡ ed25519_bytes)
    × (key_at ed25519_bytes ≡ Ok ((ed25519_key, Plain), []))
    × (key_at (ed25519_bytes ++ hex "00") ≡ Ok ((ed25519_key, Plain), hex "00"))
    × (whole key_at (ed25519_bytes ++ hex "00") ≡ Err (TrailingData 1))
    × (whole key_at (ed25519_bytes ++ hex "0000") ≡ Err (TrailingData 2))
    × (key_at (take 50 ed25519_bytes) ≡ Err Length)
    × (key_at [] ≡ Err Length)

-- The string of the key has 32 bytes.
abbrev pub Ed25519Sizes : Type 0
Ed25519Sizes = (body_at Algorithm.Ed25519 (hex "00000020" ++ replicate 32 1) ≡ Ok (Ed25519 (replicate 32 1), []))
    × (body_at Algorithm.Ed25519 (hex "0000001f" ++ replicate 32 1) ≡ Err Length)
    × (body_at Algorithm.Ed25519 (hex "00000021" ++ replicate 33 1) ≡ Err (TrailingData 1))

-- ---- RSA and DSA

abbrev pub rsa_key : Key
rsa_key = Rsa (record { e = hex "010001"; n = hex "00ff" })

abbrev pub rsa_bytes : List ℕ
rsa_bytes = hex "00000007 7373682d727361 00000003 010001 00000002 00ff"

abbrev pub rsa_256_bytes : List ℕ
rsa_256_bytes = hex "0000000c 7273612d736861322d323536 00000003 010001 00000002 00ff"

abbrev pub rsa_512_bytes : List ℕ
rsa_512_bytes = hex "0000000c 7273612d736861322d353132 00000003 010001 00000002 00ff"

-- The name before an RSA key may be one with a hash; the key is the same, and so is its normal
-- form.
abbrev pub RsaNames : Type 0
RsaNames = (length rsa_bytes ≡ 24)
    × (length rsa_256_bytes ≡ 29)
    × (key_at rsa_bytes ≡ Ok ((rsa_key, Plain), []))
    × (key_at rsa_256_bytes ≡ Ok ((rsa_key, Head256), []))
    × (key_at rsa_512_bytes ≡ Ok ((rsa_key, Head512), []))
    × (flat (normal_key rsa_key) ≡ rsa_bytes)
    × (flat (key rsa_key Head256) ≡ rsa_256_bytes)
    × (flat (key rsa_key Head512) ≡ rsa_512_bytes)

-- The order of the numbers, and a form that is no mpint.
abbrev pub MpintKeys : Type 0
MpintKeys = (flat (body rsa_key) ≡ hex "00000003 010001 00000002 00ff")
    × (body_at (Algorithm.Rsa None) (hex "00000003 010001 00000002 00ff") ≡ Ok (rsa_key, []))
    × (body_at (Algorithm.Rsa None) (hex "00000003 010001 00000002 007f") ≡ Err FormatEncoding)
    × (body_at Algorithm.Dsa (hex "00000001 05 00000001 06 00000001 07 00000001 08") ≡ Ok (Dsa (record { p = hex "05"; q = hex "06"; g = hex "07"; y = hex "08" }), []))
    × (body_at Algorithm.Dsa (hex "00000001 05 00000001 06 00000001 07 00000001 00") ≡ Err FormatEncoding)
    × (body_at Algorithm.Dsa (hex "00000001 05 00000001 06 00000001 07") ≡ Err Length)

-- ---- ECDSA

-- the strings `nistp256` and `nistp384`, and one that names no curve
abbrev pub nistp256_string : List ℕ
nistp256_string = hex "00000008 6e69737470323536"

abbrev pub nistp384_string : List ℕ
nistp384_string = hex "00000008 6e69737470333834"

abbrev pub nistp224_string : List ℕ
nistp224_string = hex "00000008 6e69737470323234"

abbrev pub p256_point : List ℕ
p256_point = 2 ∷ replicate 32 9

abbrev pub p256_string : List ℕ
p256_string = hex "00000021" ++ p256_point

abbrev pub p384_string : List ℕ
p384_string = hex "00000031 03" ++ replicate 48 9

-- The curve of the algorithm, the one that is stated and that of the point are one; the point is
-- judged before they are compared.
abbrev pub EcdsaKeys : Type 0
EcdsaKeys = (key_at (hex "00000013 65636473612d736861322d6e69737470323536" ++ nistp256_string ++ p256_string) ≡ Ok ((Ecdsa Nistp256 p256_point, Plain), []))
    × (body_at (Algorithm.Ecdsa Nistp256) (nistp256_string ++ p256_string) ≡ Ok (Ecdsa Nistp256 p256_point, []))
    × (body_at (Algorithm.Ecdsa Nistp256) (nistp256_string ++ p384_string) ≡ Err AlgorithmUnknown)
    × (body_at (Algorithm.Ecdsa Nistp256) (nistp384_string ++ p256_string) ≡ Err AlgorithmUnknown)
    × (body_at (Algorithm.Ecdsa Nistp256) (nistp384_string ++ p384_string) ≡ Err AlgorithmUnknown)
    × (body_at (Algorithm.Ecdsa Nistp256) (nistp224_string ++ p256_string) ≡ Err Label)
    × (body_at (Algorithm.Ecdsa Nistp256) (nistp256_string ++ hex "00000000") ≡ Err Length)
    × (body_at (Algorithm.Ecdsa Nistp256) (nistp256_string ++ hex "00000001 00") ≡ Err AlgorithmUnknown)
    × (body_at (Algorithm.Ecdsa Nistp256) (nistp384_string ++ hex "00000001 07") ≡ Err Fault.Ecdsa)

-- ---- security keys

-- the text `ssh:`, and a string that is no text
abbrev pub ssh_string : List ℕ
ssh_string = hex "00000004 7373683a"

abbrev pub no_text : List ℕ
no_text = hex "00000001 ff"

abbrev pub sk_ecdsa_key : Key
sk_ecdsa_key = SkEcdsa (record { key = p256_point; application = codes "ssh:" })

abbrev pub sk_ed25519_key : Key
sk_ed25519_key = SkEd25519 (record { key = ed25519_point; application = [] })

-- The curve is P-256, then a point of at most 65 bytes, then a text.
abbrev pub SecurityKeysEcdsa : Type 0
SecurityKeysEcdsa = (key_at (hex "00000022 736b2d65636473612d736861322d6e69737470323536406f70656e7373682e636f6d" ++ nistp256_string ++ p256_string ++ ssh_string) ≡ Ok ((sk_ecdsa_key, Plain), []))
    × (body_at Algorithm.SkEcdsa (nistp384_string ++ p256_string ++ ssh_string) ≡ Err Crypto)
    × (body_at Algorithm.SkEcdsa (nistp224_string ++ p256_string ++ ssh_string) ≡ Err Label)
    × (body_at Algorithm.SkEcdsa (nistp256_string ++ p384_string ++ ssh_string) ≡ Err Fault.Ecdsa)
    × (body_at Algorithm.SkEcdsa (nistp256_string ++ hex "00000042 04" ++ replicate 65 9 ++ ssh_string) ≡ Err Length)
    × (body_at Algorithm.SkEcdsa (nistp256_string ++ p256_string ++ no_text) ≡ Err CharacterEncoding)
    × (body_at Algorithm.SkEcdsa (nistp256_string ++ p256_string) ≡ Err Length)

-- 32 bytes, then a text.
abbrev pub SecurityKeysEd25519 : Type 0
SecurityKeysEd25519 = (key_at (hex "0000001a 736b2d7373682d65643235353139406f70656e7373682e636f6d 00000020" ++ ed25519_point ++ hex "00000000") ≡ Ok ((sk_ed25519_key, Plain), []))
    × (body_at Algorithm.SkEd25519 (hex "0000001f" ++ replicate 31 1 ++ ssh_string) ≡ Err Length)
    × (body_at Algorithm.SkEd25519 (hex "00000021" ++ replicate 33 1 ++ ssh_string) ≡ Err (TrailingData 1))
    × (body_at Algorithm.SkEd25519 (hex "00000020" ++ replicate 32 1 ++ no_text) ≡ Err CharacterEncoding)

-- ---- keys of a private-use algorithm

abbrev pub opaque_key : Key
opaque_key = Opaque (codes "name@example.com") (hex "0102")

-- One string, empty too; any other unknown name is refused.
abbrev pub OpaqueKeys : Type 0
OpaqueKeys = (key_at (hex "00000010 6e616d65406578616d706c652e636f6d 00000002 0102") ≡ Ok ((opaque_key, Plain), []))
    × (flat (normal_key opaque_key) ≡ hex "00000010 6e616d65406578616d706c652e636f6d 00000002 0102")
    × (key_at (hex "00000010 6e616d65406578616d706c652e636f6d 00000000") ≡ Ok ((Opaque (codes "name@example.com") [], Plain), []))
    × (key_at (hex "00000004 6e616d65 00000002 0102") ≡ Err Label)
