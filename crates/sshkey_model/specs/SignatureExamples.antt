-- Worked examples: signatures.
use Rattle.std.specs.Prelude.{◌≡◌, ℕ, List, [], ◌∷◌, ◌++◌, length, replicate, Some, None, Result, Ok, Err, codes}
use Rattle.sshkey_model.specs.HexText.{hex}
use Rattle.sshkey_model.specs.Parts.{flat, ◌&◌}
use Rattle.sshkey_model.specs.Reading.{Fault, Length, Label, FormatEncoding, Crypto}
use Rattle.sshkey_model.specs.Texts.{string}
use Rattle.sshkey_model.specs.Names.{Nistp256, Nistp384, Nistp521, Sha256, Sha512, Algorithm, Dsa, Ecdsa, Ed25519, Rsa, SkEcdsa, SkEd25519, Other}
use Rattle.sshkey_model.specs.Points.{field_size}
use Rattle.sshkey_model.specs.Signatures.{Signature, signature, signature_at, signature_blob_at, ecdsa_blob_from}

-- ---- whole signatures

-- An ECDSA signature of a security key: r, s, the flags 01 and the counter 236.
abbrev pub sk_ecdsa_blob : List ℕ
sk_ecdsa_blob = hex "00000020 1b35a1c6469a43a3d09d490d6ff8ca1bc2486a2edeb8aa7d119e4c70b9c18110 00000021 009724a2a4449a90357485ed1df0161274d20083342b02756794bc3f068fcdc15e 01 000000ec"

abbrev pub sk_ecdsa_signature : Signature
sk_ecdsa_signature = record { algorithm = SkEcdsa; blob = sk_ecdsa_blob }

abbrev pub sk_ecdsa_signature_bytes : List ℕ
sk_ecdsa_signature_bytes = hex "00000022 736b2d65636473612d736861322d6e69737470323536406f70656e7373682e636f6d"
    ++ hex "00000049 00000020 1b35a1c6469a43a3d09d490d6ff8ca1bc2486a2edeb8aa7d119e4c70b9c18110 00000021 009724a2a4449a90357485ed1df0161274d20083342b02756794bc3f068fcdc15e"
    ++ hex "01 000000ec"

-- An Ed25519 signature of a security key over the empty message, with the counter 9.
abbrev pub sk_ed25519_within : List ℕ
sk_ed25519_within = hex "2f5670b6f93465d17423878a74084bf331767031ed240c627c8eb79ab8fa1b935a1fd993f52f5a13fec1797f8a434f943a6096246aea8dd5c8aa922cba3d9506"

abbrev pub sk_ed25519_signature : Signature
sk_ed25519_signature = record { algorithm = SkEd25519; blob = sk_ed25519_within ++ hex "01 00000009" }

abbrev pub sk_ed25519_signature_bytes : List ℕ
sk_ed25519_signature_bytes = hex "0000001a 736b2d7373682d65643235353139406f70656e7373682e636f6d 00000040" ++ sk_ed25519_within ++ hex "01 00000009"

-- Flags and counter follow the string, and end the blob.
abbrev pub SecurityKeySignatures : Type 0
SecurityKeySignatures = (length sk_ecdsa_signature_bytes ≡ 120)
    × (length sk_ecdsa_blob ≡ 78)
    × (signature_at sk_ecdsa_signature_bytes ≡ Ok (sk_ecdsa_signature, []))
    × (flat (signature sk_ecdsa_signature) ≡ sk_ecdsa_signature_bytes)
    × (signature_at sk_ed25519_signature_bytes ≡ Ok (sk_ed25519_signature, []))
    × (flat (signature sk_ed25519_signature) ≡ sk_ed25519_signature_bytes)
    × (signature_at (hex "00000022 736b2d65636473612d736861322d6e69737470323536406f70656e7373682e636f6d 0000004e" ++ sk_ecdsa_blob) ≡ Err Length)

-- The name, then the blob.
abbrev pub PlainSignatures : Type 0
PlainSignatures = (signature_at (hex "0000000b 7373682d65643235353139 00000040" ++ replicate 64 0 ++ hex "ff") ≡ Ok (record { algorithm = Ed25519; blob = replicate 64 0 }, hex "ff"))
    × (flat (signature (record { algorithm = Ed25519; blob = replicate 64 0 })) ≡ hex "0000000b 7373682d65643235353139 00000040" ++ replicate 64 0)
    × (signature_at (hex "0000000c 7273612d736861322d323536 00000001 00") ≡ Ok (record { algorithm = Rsa (Some Sha256); blob = hex "00" }, []))
    × (signature_at (hex "00000007 7373682d727361 00000001 00") ≡ Err Length)
    × (signature_at (hex "00000004 6e616d65 00000001 00") ≡ Err Label)

-- ---- sizes

-- what a string of n bytes 01 is read as
abbrev pub sized : Algorithm → ℕ → Result (List ℕ × List ℕ) Fault
sized a n = signature_blob_at a (flat (string (replicate n 1)))

-- Each algorithm's size, one byte less and one byte more.
abbrev pub SignatureSizes : Type 0
SignatureSizes = (sized Dsa 39 ≡ Err Length)
    × (sized Dsa 40 ≡ Ok (replicate 40 1, []))
    × (sized Dsa 41 ≡ Err Length)
    × (sized Ed25519 63 ≡ Err Length)
    × (sized Ed25519 64 ≡ Ok (replicate 64 1, []))
    × (sized Ed25519 65 ≡ Err Length)
    × (sized (Rsa (Some Sha256)) 0 ≡ Ok ([], []))
    × (sized (Rsa (Some Sha512)) 3 ≡ Ok (replicate 3 1, []))
    × (sized (Rsa None) 0 ≡ Err Length)
    × (sized (Rsa None) 3 ≡ Err Length)
    × (sized (Other (codes "name@example.com")) 0 ≡ Err Length)
    × (sized (Other (codes "name@example.com")) 1 ≡ Ok (hex "01", []))

-- what a string of `n` bytes 01 is read as, with `k` bytes 02 after it
abbrev pub trailed : ℕ → ℕ → Result (List ℕ × List ℕ) Fault
trailed n k = signature_blob_at SkEd25519 (flat (string (replicate n 1)) ++ replicate k 2)

-- 64 bytes and 5: blobs of 68, 69 and 70 bytes, and a short trailer.
abbrev pub SecurityKeySizes : Type 0
SecurityKeySizes = (trailed 63 5 ≡ Err Length)
    × (trailed 64 5 ≡ Ok (replicate 64 1 ++ replicate 5 2, []))
    × (trailed 65 5 ≡ Err Length)
    × (trailed 64 4 ≡ Err Length)
    × (trailed 64 6 ≡ Ok (replicate 64 1 ++ replicate 5 2, hex "02"))

-- ---- ECDSA

abbrev pub components : List ℕ → List ℕ → List ℕ
components r s = flat (string r & string s)

-- Of a curve with coordinates of n bytes: numbers of n bytes, with a 00 before the first too, and
-- no longer ones.
abbrev pub ComponentsOf : ℕ → ℕ → Type 0
ComponentsOf size n = (ecdsa_blob_from size (components (replicate n 1) (hex "01")) ≡ Ok (components (replicate n 1) (hex "01")))
    × (ecdsa_blob_from size (components (1 ∷ replicate n 1) (hex "01")) ≡ Err Length)
    × (ecdsa_blob_from size (components (0 ∷ replicate n 0x80) (hex "01")) ≡ Ok (components (0 ∷ replicate n 0x80) (hex "01")))
    × (ecdsa_blob_from size (components (0 ∷ 0x80 ∷ replicate n 1) (hex "01")) ≡ Err Length)
    × (ecdsa_blob_from size (components (hex "01") (replicate n 1)) ≡ Ok (components (hex "01") (replicate n 1)))
    × (ecdsa_blob_from size (components (hex "01") (1 ∷ replicate n 1)) ≡ Err Length)

abbrev pub ComponentSizes : Type 0
ComponentSizes = ComponentsOf (field_size Nistp256) 32 × ComponentsOf (field_size Nistp384) 48 × ComponentsOf (field_size Nistp521) 66

-- Two positive numbers and nothing after them; the first is judged before the second.
abbrev pub Components : Type 0
Components = (ecdsa_blob_from 32 (components (hex "7f") (hex "0080")) ≡ Ok (components (hex "7f") (hex "0080")))
    × (ecdsa_blob_from 32 (components [] (hex "01")) ≡ Err Crypto)
    × (ecdsa_blob_from 32 (components (hex "80") (hex "01")) ≡ Err Crypto)
    × (ecdsa_blob_from 32 (components (hex "01") []) ≡ Err Crypto)
    × (ecdsa_blob_from 32 (components (hex "00") (hex "01")) ≡ Err FormatEncoding)
    × (ecdsa_blob_from 32 (components (hex "01") (hex "0001")) ≡ Err FormatEncoding)
    × (ecdsa_blob_from 32 (components [] (hex "00")) ≡ Err Crypto)
    × (ecdsa_blob_from 32 (components (hex "01") (hex "01") ++ hex "00") ≡ Err Length)
    × (ecdsa_blob_from 32 (hex "00000001 01") ≡ Err Length)
    × (ecdsa_blob_from 32 [] ≡ Err Length)

-- The string and the trailer of a security key's signature are read before the string is judged.
abbrev pub JudgedLast : Type 0
JudgedLast = (signature_blob_at SkEcdsa (flat (string (components [] (hex "01"))) ++ hex "01 00000001") ≡ Err Crypto)
    × (signature_blob_at SkEcdsa (flat (string (components [] (hex "01"))) ++ hex "01 000000") ≡ Err Length)
    × (signature_blob_at SkEcdsa (flat (string (components (hex "01") (hex "01"))) ++ hex "01 00000001") ≡ Ok (components (hex "01") (hex "01") ++ hex "01 00000001", []))
    × (signature_blob_at (Ecdsa Nistp256) (flat (string (components (hex "01") (hex "01")))) ≡ Ok (components (hex "01") (hex "01"), []))
