-- Worked examples: certificates.
use Rattle.std.specs.Prelude.{◌≡◌, ℕ, ◌+◌, ◌-◌, ◌^◌, List, [], ◌∷◌, ◌++◌, length, take, drop, replicate, true, false, Some, Ok, Err, codes}
use Rattle.sshkey_model.specs.HexText.{hex}
use Rattle.sshkey_model.specs.Parts.{flat}
use Rattle.sshkey_model.specs.Reading.{Length, CharacterEncoding, Label, TrailingData, FormatEncoding, Time, whole}
use Rattle.sshkey_model.specs.Names.{Sha256, Algorithm}
use Rattle.sshkey_model.specs.Keys.{Key, Ed25519, Plain, Head256}
use Rattle.sshkey_model.specs.Options.{Nesting}
use Rattle.sshkey_model.specs.Certificates.{CertificateType, User, Host, SignedFields, Certificate, CertificateChoices, to_be_signed, normal_to_be_signed, normal_certificate, is_time, type_at, time_at, certificate_at, end_at, forever}
use Rattle.sshkey_model.specs.KeyExamples.{ed25519_point, ed25519_key, ed25519_bytes, rsa_key, rsa_bytes, rsa_256_bytes}

-- ---- times and types

-- 2^63 - 1 is a time and 2^63 is none; 2^64 - 1 is no end, and is none where something begins.
abbrev pub Times : Type 0
Times = (is_time 0 ≡ true)
    × (is_time (2 ^ 63 - 1) ≡ true)
    × (is_time (2 ^ 63) ≡ false)
    × (is_time (2 ^ 64 - 1) ≡ false)
    × (time_at (hex "7fffffffffffffff") ≡ Ok (2 ^ 63 - 1, []))
    × (time_at (hex "8000000000000000") ≡ Err Time)
    × (time_at (hex "ffffffffffffffff") ≡ Err Time)
    × (time_at (hex "00000000000000") ≡ Err Length)
    × (end_at (hex "7fffffffffffffff") ≡ Ok (2 ^ 63 - 1, []))
    × (end_at (hex "8000000000000000") ≡ Err Time)
    × (end_at (hex "fffffffffffffffe") ≡ Err Time)
    × (end_at (hex "ffffffffffffffff") ≡ Ok (forever, []))

-- 1 and 2, and nothing else.
abbrev pub CertificateTypes : Type 0
CertificateTypes = (type_at (hex "00000000") ≡ Err FormatEncoding)
    × (type_at (hex "00000001") ≡ Ok (User, []))
    × (type_at (hex "00000002") ≡ Ok (Host, []))
    × (type_at (hex "00000003") ≡ Err FormatEncoding)

-- ---- a certificate that OpenSSH made

abbrev pub authority : Key
authority = Ed25519 (hex "7d4c170235a1174489f5e0050bd641f08106d03f3e2f1809413f237c17149a36")

-- the same with another end, type, principals and reserved bytes
abbrev pub certificate_until : ℕ → CertificateType → List (List ℕ) → List ℕ → Certificate
certificate_until end_ kind principals reserved = record {
  signed = record {
    nonce = hex "15bfe332ea5d644e5a6375b0f81dc929c7d4652c10506316b47028ac3bd41a01";
    key = authority;
    serial = 0;
    certificate_type = kind;
    key_id = codes "foo";
    valid_principals = principals;
    valid_after = 0;
    valid_before = end_;
    critical_options = record { name = codes "hello@example.com"; value = codes "foobar" } ∷ [];
    extensions = [];
    reserved = reserved;
    signature_key = authority;
  };
  signature = record { algorithm = Algorithm.Ed25519; blob = hex "d1a0f748e3c2b2a1a2e068366c486b3cd2a05e61039705df38097f0663316dfcbdb5af117511eb8f3a482cc7b437f569655e9f8580c3288ec1dfb4afc324710d" };
}

abbrev pub certificate_with : CertificateType → List (List ℕ) → List ℕ → Certificate
certificate_with kind principals reserved = certificate_until (2 ^ 63 - 1) kind principals reserved

abbrev pub openssh_certificate : Certificate
openssh_certificate = certificate_with User [] []

-- one option that is not nested, no extensions, and the signature key's own name
abbrev pub openssh_choices : CertificateChoices
openssh_choices = record { critical_options = Nesting.Plain ∷ []; extensions = []; signature_key = Plain }

-- The fields stand at 0 (name), 36, 72 (key), 108, 116 (type), 120 (key id), 127 (principals), 131,
-- 139 (times), 147, 186 (options), 190 (reserved), 194 (signature key) and 249 (signature).
abbrev pub openssh_bytes : List ℕ
openssh_bytes = hex "00000020 7373682d656432353531392d636572742d763031406f70656e7373682e636f6d"
    ++ hex "00000020 15bfe332ea5d644e5a6375b0f81dc929c7d4652c10506316b47028ac3bd41a01"
    ++ hex "00000020 7d4c170235a1174489f5e0050bd641f08106d03f3e2f1809413f237c17149a36"
    ++ hex "0000000000000000 00000001"
    ++ hex "00000003 666f6f 00000000"
    ++ hex "0000000000000000 7fffffffffffffff"
    ++ hex "00000023 00000011 68656c6c6f406578616d706c652e636f6d 0000000a 00000006 666f6f626172 00000000 00000000"
    ++ hex "00000033 0000000b 7373682d65643235353139 00000020 7d4c170235a1174489f5e0050bd641f08106d03f3e2f1809413f237c17149a36"
    ++ hex "00000053 0000000b 7373682d65643235353139 00000040 d1a0f748e3c2b2a1a2e068366c486b3cd2a05e61039705df38097f0663316dfcbdb5af117511eb8f3a482cc7b437f569655e9f8580c3288ec1dfb4afc324710d"

-- It is read, and is its own normal form; the signature is over its first 249 bytes.
abbrev pub OpensshCertificate : Type 0
OpensshCertificate = (length openssh_bytes ≡ 336)
    × (certificate_at openssh_bytes ≡ Ok ((openssh_certificate, openssh_choices), []))
    × (flat (normal_certificate openssh_certificate) ≡ openssh_bytes)
    × (flat (normal_to_be_signed openssh_certificate.signed) ≡ take 249 openssh_bytes)

-- these bytes in the place of as many from there on
abbrev pub patched : ℕ → List ℕ → List ℕ
patched at new = take at openssh_bytes ++ new ++ drop (at + length new) openssh_bytes

-- these bytes in the place of the four from there on
abbrev pub widened : ℕ → List ℕ → List ℕ
widened at new = take at openssh_bytes ++ new ++ drop (at + 4) openssh_bytes

-- ssh-keygen writes 2^64 - 1 where no end was given; it is read and kept.
abbrev pub EndlessCertificate : Type 0
EndlessCertificate = (certificate_at (patched 139 (hex "ffffffffffffffff")) ≡ Ok ((certificate_until forever User [] [], openssh_choices), []))
    × (flat (normal_certificate (certificate_until forever User [] [])) ≡ patched 139 (hex "ffffffffffffffff"))

-- Another type, two principals and reserved bytes are read and kept.
abbrev pub OtherFields : Type 0
OtherFields = (certificate_at (patched 116 (hex "00000002")) ≡ Ok ((certificate_with Host [] [], openssh_choices), []))
    × (certificate_at (widened 127 (hex "0000000a 00000001 61 00000001 62")) ≡ Ok ((certificate_with User (codes "a" ∷ codes "b" ∷ []) [], openssh_choices), []))
    × (certificate_at (widened 190 (hex "00000002 aabb")) ≡ Ok ((certificate_with User [] (hex "aabb"), openssh_choices), []))
    × (flat (normal_certificate (certificate_with Host [] [])) ≡ patched 116 (hex "00000002"))
    × (flat (normal_certificate (certificate_with User (codes "a" ∷ codes "b" ∷ []) [])) ≡ widened 127 (hex "0000000a 00000001 61 00000001 62"))
    × (flat (normal_certificate (certificate_with User [] (hex "aabb"))) ≡ widened 190 (hex "00000002 aabb"))

-- Each field with a fault, one after the other.
abbrev pub CertificateFaults : Type 0
CertificateFaults = (certificate_at (patched 23 (hex "32")) ≡ Err Label)
    × (certificate_at (patched 72 (hex "00000021")) ≡ Err (TrailingData 1))
    × (certificate_at (patched 116 (hex "00000000")) ≡ Err FormatEncoding)
    × (certificate_at (patched 116 (hex "00000003")) ≡ Err FormatEncoding)
    × (certificate_at (patched 124 (hex "ff")) ≡ Err CharacterEncoding)
    × (certificate_at (widened 127 (hex "00000005 00000001 ff")) ≡ Err CharacterEncoding)
    × (certificate_at (widened 127 (hex "00000005 00000002 61")) ≡ Err Length)
    × (certificate_at (patched 131 (hex "80")) ≡ Err Time)
    × (certificate_at (patched 139 (hex "80")) ≡ Err Time)
    × (certificate_at (patched 139 (hex "fffffffffffffffe")) ≡ Err Time)
    × (certificate_at (patched 131 (hex "ffffffffffffffff")) ≡ Err Time)
    × (certificate_at (patched 147 (hex "00000022")) ≡ Err Length)
    × (certificate_at (widened 186 (hex "00000011 00000001 61 00000008 00000000 00000000")) ≡ Err (TrailingData 4))
    × (certificate_at (take 194 openssh_bytes ++ hex "00000034" ++ take 51 (drop 198 openssh_bytes) ++ hex "00" ++ drop 249 openssh_bytes) ≡ Err (TrailingData 1))
    × (certificate_at (take 249 openssh_bytes ++ hex "00000055" ++ drop 253 openssh_bytes ++ hex "0000") ≡ Err (TrailingData 2))
    × (certificate_at (take 335 openssh_bytes) ≡ Err Length)
    × (certificate_at [] ≡ Err Length)
    × (whole certificate_at (openssh_bytes ++ hex "00") ≡ Err (TrailingData 1))

-- ---- what is signed

-- for K, from 10 up to there, signed under that key
abbrev pub small_until : ℕ → Key → SignedFields
small_until end_ signature_key = record { nonce = hex "01"; key = ed25519_key; serial = 0; certificate_type = User; key_id = []; valid_principals = []; valid_after = 10; valid_before = end_; critical_options = []; extensions = []; reserved = []; signature_key = signature_key }

abbrev pub small_certificate : Key → SignedFields
small_certificate signature_key = small_until 20 signature_key

abbrev pub endless_fields : SignedFields
endless_fields = small_until forever ed25519_key

abbrev pub small_choices : CertificateChoices
small_choices = record { critical_options = []; extensions = []; signature_key = Head256 }

-- all before the signature key
abbrev pub small_bytes : List ℕ
small_bytes = hex "00000020 7373682d656432353531392d636572742d763031406f70656e7373682e636f6d"
    ++ hex "00000001 01 00000020" ++ ed25519_point
    ++ hex "0000000000000000 00000001 00000000 00000000 000000000000000a 0000000000000014 00000000 00000000 00000000"

-- 180 bytes are signed, and 267 make the certificate.
abbrev pub SignedBytes : Type 0
SignedBytes = (flat (normal_to_be_signed (small_certificate ed25519_key)) ≡ small_bytes ++ hex "00000033" ++ ed25519_bytes)
    × (length (flat (normal_to_be_signed (small_certificate ed25519_key))) ≡ 180)
    × (length (flat (normal_certificate (record { signed = small_certificate ed25519_key; signature = record { algorithm = Algorithm.Ed25519; blob = replicate 64 0 } }))) ≡ 267)

abbrev pub rsa_certificate : Certificate
rsa_certificate = record { signed = small_certificate rsa_key; signature = record { algorithm = Algorithm.Rsa (Some Sha256); blob = hex "00" } }

abbrev pub rsa_signature_box : List ℕ
rsa_signature_box = hex "00000015 0000000c 7273612d736861322d323536 00000001 00"

-- A signature key under a name with a hash is read as the key, and signed and written under its own
-- name.
abbrev pub SignatureKeyNames : Type 0
SignatureKeyNames = (certificate_at (small_bytes ++ hex "0000001d" ++ rsa_256_bytes ++ rsa_signature_box) ≡ Ok ((rsa_certificate, small_choices), []))
    × (length (small_bytes ++ hex "0000001d" ++ rsa_256_bytes) ≡ 158)
    × (length (small_bytes ++ hex "0000001d" ++ rsa_256_bytes ++ rsa_signature_box) ≡ 183)
    × (flat (to_be_signed rsa_certificate.signed small_choices) ≡ small_bytes ++ hex "0000001d" ++ rsa_256_bytes)
    × (flat (normal_to_be_signed rsa_certificate.signed) ≡ small_bytes ++ hex "00000018" ++ rsa_bytes)
    × (length (flat (normal_to_be_signed rsa_certificate.signed)) ≡ 153)
    × (flat (normal_certificate rsa_certificate) ≡ small_bytes ++ hex "00000018" ++ rsa_bytes ++ rsa_signature_box)
    × (length (flat (normal_certificate rsa_certificate)) ≡ 178)
