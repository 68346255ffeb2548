-- Worked examples: the bytes that ssh-keygen(1), `-k`, of OpenSSH 9.2 writes of one section each.
use Rattle.std.specs.Prelude.{◌≡◌, ℕ, List, [], ◌∷◌, ◌++◌, true, false, Ok, codes, replicate}
use Rattle.sshkey_model.specs.HexText.{hex}
use Rattle.sshkey_model.specs.Keys.{Key, Ed25519, normal_key}
use Rattle.sshkey_model.specs.Parts.{flat}
use Rattle.sshkey_model.specs.Reading.{whole}
use Rattle.sshkey_krl.specs.Krls.{krl_format, magic}
use Rattle.sshkey_krl.specs.Writing.{ssh_rsa, authority_string, certificates_section, has_zero, header, key_id_part, key_section, range_part, serials_part, sha1_section}
use Rattle.sshkey_krl.specs.Revocation.{Everybody, Signer, begun, bit_len, is_negative, significant}

abbrev front : List ℕ
front = hex "5353484b524c0a00 00000001 0000000000000003 000000006b0e1170 0000000000000000 00000000 00000000"

-- An empty specification makes a list without sections.
abbrev pub Beginning : Type 0
Beginning = (magic ≡ hex "5353484b524c0a00") × (flat (header 3 0x6b0e1170 []) ≡ front) × (whole krl_format.read front ≡ Ok (begun 3 0x6b0e1170 []))

abbrev authority : Key
authority = Ed25519 (replicate 32 1)

abbrev authority_bytes : List ℕ
authority_bytes = hex "0000000b 7373682d65643235353139 00000020" ++ replicate 32 1

-- of `serial: 5`, `serial: 5-1000` and `id: ab`, and of the last by an authority; without one its string
-- is empty
abbrev pub CertificateSections : Type 0
CertificateSections = (flat (authority_string Everybody) ≡ hex "00000000") × (flat (authority_string (Signer authority)) ≡ hex "00000033" ++ authority_bytes)
    × (flat (certificates_section Everybody (serials_part (5 ∷ []))) ≡ hex "01 00000015 00000000 00000000 20 00000008 0000000000000005")
    × (flat (certificates_section Everybody (range_part 5 1000)) ≡ hex "01 0000001d 00000000 00000000 21 00000010 0000000000000005 00000000000003e8")
    × (flat (certificates_section Everybody (key_id_part (codes "ab"))) ≡ hex "01 00000013 00000000 00000000 23 00000006 00000002 6162")
    × (flat (certificates_section (Signer authority) (key_id_part (codes "ab"))) ≡ hex "01 00000046 00000033" ++ authority_bytes ++ hex "00000000 23 00000006 00000002 6162")

-- of a key, and of `sha1:` before it
abbrev pub KeysWritten : Type 0
KeysWritten = (flat (key_section (normal_key authority)) ≡ hex "02 00000037 00000033" ++ authority_bytes)
    × (flat (sha1_section (hex "83c5e9924dd942cdd9686c29e7cfef6f2a64ff26")) ≡ hex "03 00000018 00000014 83c5e9924dd942cdd9686c29e7cfef6f2a64ff26")

-- A zero byte may stand nowhere in a text that is written, and RSA's name is a string (RFC 4253,
-- section 6.6).
abbrev pub Zeros : Type 0
Zeros = (has_zero [] ≡ false) × (has_zero (codes "id") ≡ false) × (has_zero (codes "\0id") ≡ true) × (has_zero (codes "id\0") ≡ true) × (ssh_rsa ≡ hex "00000007 7373682d727361")

-- A number is negative by its first bit, and has as many bits as after its leading zeros (RFC 4251,
-- section 5).
abbrev pub BitLengths : Type 0
BitLengths = (bit_len [] ≡ 0) × (bit_len (hex "01") ≡ 1) × (bit_len (hex "7f") ≡ 7) × (bit_len (hex "80") ≡ 8) × (bit_len (hex "0100") ≡ 9)
    × (is_negative [] ≡ false) × (is_negative (hex "7fff") ≡ false) × (is_negative (hex "80") ≡ true)
    × (significant [] ≡ []) × (significant (hex "0000") ≡ []) × (significant (hex "00008001") ≡ hex "8001") × (significant (hex "0100") ≡ hex "0100")
