-- Worked examples: a list of ssh-keygen(1), and both sides of each edge.
use Rattle.std.specs.Prelude.{◌≡◌, ℕ, List, [], ◌∷◌, ◌++◌, ◌-◌, ◌^◌, true, false, Ok, Err, codes, replicate}
use Rattle.sshkey_model.specs.HexText.{hex}
use Rattle.sshkey_model.specs.Keys.{Key, Ecdsa, Ed25519, Rsa}
use Rattle.sshkey_model.specs.Names.{Nistp256}
use Rattle.sshkey_model.specs.Reading.{FormatEncoding, TrailingData, Version, whole}
use Rattle.sshkey_krl.specs.Krls.{krl_format, version_from, authority_from, is_read_signer}
use Rattle.sshkey_krl.specs.Parts as parts
use Rattle.sshkey_krl.specs.Parts.{text_from}
use Rattle.sshkey_krl.specs.Revocation.{Certificates, Everybody, KeyIds, Keys, Krl, Numbers, Section, Sha1s, Sha256s, Signer, certificate_identity, has_certificate, has_key, revokes, revokes_key, without_zero, Bitmap, Listed, Range, fits, has_serial, is_bitmap, range_from, serial_from}
use Rattle.sshkey_krl.specs.Revocations.{only_if_read, unless_read}
use Rattle.sshkey_krl.specs.Krls as sections
use Rattle.sshkey_krl.specs.declared.part.PartKind.TheVariants as part
use Rattle.sshkey_krl.specs.declared.section.SectionKind.TheVariants as section

-- the bitmap that `ssh-keygen -k` writes of `serial: 5-10`, 20, 22, 23 and 25, from 5 on
abbrev bits : List ℕ
bits = hex "16803f"

-- what `ssh-keygen -k -s none -z 3` writes of these numbers and of `id: ab`
abbrev listed : List ℕ
listed = hex "5353484b524c0a00 00000001 0000000000000003 000000006b0ba513 0000000000000000 00000000 00000000 01 00000027 00000000 00000000 22 0000000f 0000000000000005 00000003 16803f 23 00000006 00000002 6162"

abbrev pub WholeList : Type 0
WholeList = whole krl_format.read listed ≡ Ok (record { number = 3; date = 0x6b0ba513; flags = 0; reserved = []; comment = []; sections = Certificates Everybody (Numbers (Bitmap 5 bits) ∷ KeyIds (codes "ab" ∷ []) ∷ []) ∷ [] })

-- Both ends of a range and of the bits are in it, the numbers beside them are not.
abbrev pub SerialEdges : Type 0
SerialEdges = (has_serial 4 (Range 5 10) ≡ false) × (has_serial 5 (Range 5 10) ≡ true) × (has_serial 10 (Range 5 10) ≡ true) × (has_serial 11 (Range 5 10) ≡ false)
    × (has_serial 4 (Bitmap 5 bits) ≡ false) × (has_serial 5 (Bitmap 5 bits) ≡ true) × (has_serial 10 (Bitmap 5 bits) ≡ true) × (has_serial 11 (Bitmap 5 bits) ≡ false)
    × (has_serial 20 (Bitmap 5 bits) ≡ true) × (has_serial 21 (Bitmap 5 bits) ≡ false) × (has_serial 25 (Bitmap 5 bits) ≡ true) × (has_serial 26 (Bitmap 5 bits) ≡ false)
    × (has_serial 2 (Listed (1 ∷ 2 ∷ [])) ≡ true) × (has_serial 3 (Listed (1 ∷ 2 ∷ [])) ≡ false)

-- The number 0 is never revoked, nor may it stand in a list; a range does not fall.
abbrev pub NumberEdges : Type 0
NumberEdges = (serial_from 0 ≡ Err FormatEncoding) × (serial_from 1 ≡ Ok 1)
    × (range_from (0, 1) ≡ Err FormatEncoding) × (range_from (1, 1) ≡ Ok (Range 1 1)) × (range_from (2, 1) ≡ Err FormatEncoding)
    × (has_certificate (certificate_identity [] 0 []) (Numbers (Range 0 9)) ≡ false) × (has_certificate (certificate_identity [] 1 []) (Numbers (Range 0 9)) ≡ true)

-- A bitmap is not negative, and has at most 2,048 bytes without zeros in front. No bit is for 0, nor for
-- a number of more than eight bytes.
abbrev pub BitmapEdges : Type 0
BitmapEdges = (is_bitmap 1 (hex "7f") ≡ true) × (is_bitmap 1 (hex "80") ≡ false) × (is_bitmap 1 (hex "0080") ≡ true)
    × (is_bitmap 0 (hex "01") ≡ false) × (is_bitmap 0 (hex "02") ≡ true)
    × (is_bitmap (2 ^ 64 - 1) (hex "01") ≡ true) × (is_bitmap (2 ^ 64 - 1) (hex "02") ≡ false)

abbrev pub BitmapSizes : Type 0
BitmapSizes = (fits 1 (replicate 2048 1) ≡ true) × (fits 1 (replicate 2049 1) ≡ false)
    × (is_bitmap 1 (0 ∷ replicate 2048 1) ≡ true) × (is_bitmap 1 (0 ∷ 0 ∷ replicate 2047 1) ≡ true) × (is_bitmap 1 (0 ∷ 0 ∷ replicate 2048 1) ≡ false)

-- One zero byte at the end is not part of a text; another is not read.
abbrev pub TextEdges : Type 0
TextEdges = (without_zero (codes "id") ≡ codes "id") × (without_zero (codes "id\0") ≡ codes "id") × (without_zero (codes "id\0\0") ≡ codes "id\0") × (without_zero [] ≡ [])
    × (text_from (codes "id\0") ≡ Ok (codes "id")) × (text_from (codes "i\0d") ≡ Err FormatEncoding) × (text_from (codes "id\0\0") ≡ Err FormatEncoding)
    × (has_certificate (certificate_identity [] 1 (codes "id\0")) (KeyIds (codes "id" ∷ [])) ≡ true) × (has_certificate (certificate_identity [] 1 (codes "ID")) (KeyIds (codes "id" ∷ [])) ≡ false)

-- the numbers of PROTOCOL.krl; 4 is a signature
abbrev pub Kinds : Type 0
Kinds = (sections.kind_from 0 ≡ Err FormatEncoding) × (sections.kind_from 1 ≡ Ok section.Certificates) × (sections.kind_from 2 ≡ Ok section.Keys) × (sections.kind_from 3 ≡ Ok section.Sha1) × (sections.kind_from 4 ≡ Err FormatEncoding) × (sections.kind_from 5 ≡ Ok section.Sha256) × (sections.kind_from 6 ≡ Err FormatEncoding)
    × (parts.kind_from 0x1f ≡ Err FormatEncoding) × (parts.kind_from 0x20 ≡ Ok part.Serials) × (parts.kind_from 0x21 ≡ Ok part.Range) × (parts.kind_from 0x22 ≡ Ok part.Bitmap) × (parts.kind_from 0x23 ≡ Ok part.KeyIds) × (parts.kind_from 0x24 ≡ Err FormatEncoding)
    × (version_from 1 ≡ Ok 1) × (version_from 0 ≡ Err (Version 0)) × (version_from 2 ≡ Err (Version 2))

abbrev rsa : List ℕ → Key
rsa n = Rsa (record { e = 1 ∷ 0 ∷ 1 ∷ []; n = n })

-- What OpenSSH reads of authorities: RSA from 1,024 bits on, and no compressed point.
abbrev pub Authorities : Type 0
Authorities = (is_read_signer (rsa (0x7f ∷ replicate 127 0)) ≡ false) × (is_read_signer (rsa (0 ∷ 0x80 ∷ replicate 127 0)) ≡ true)
    × (is_read_signer (Ecdsa Nistp256 (2 ∷ replicate 32 1)) ≡ false) × (is_read_signer (Ed25519 (replicate 32 1)) ≡ true)

-- ---- what a list revokes

-- the digests of `abc` (FIPS 180-2, appendices A.1 and B.1)
abbrev sha1_of_abc : List ℕ
sha1_of_abc = hex "a9993e364706816aba3e25717850c26c9cd0d89d"

abbrev sha256_of_abc : List ℕ
sha256_of_abc = hex "ba7816bf8f01cfea414140de5dae2223b00361a396177a9cb410ff61f20015ad"

-- A key is listed by its bytes, or by the digest that the section is about; a section about
-- certificates lists none.
abbrev pub KeySections : Type 0
KeySections = (has_key (codes "abc") (Keys (codes "ab" ∷ codes "abc" ∷ [])) ≡ true) × (has_key (codes "abc") (Keys (codes "ab" ∷ codes "abcd" ∷ [])) ≡ false)
    × (has_key (codes "abc") (Sha1s (sha1_of_abc ∷ [])) ≡ true) × (has_key (codes "abc") (Sha1s (sha256_of_abc ∷ [])) ≡ false)
    × (has_key (codes "abc") (Sha256s (sha256_of_abc ∷ [])) ≡ true) × (has_key (codes "abc") (Sha256s (sha1_of_abc ∷ [])) ≡ false)
    × (has_key (codes "abc") (Certificates Everybody (KeyIds (codes "abc" ∷ []) ∷ [])) ≡ false)

-- two keys, and the bytes of the first
abbrev authority : Key
authority = Ed25519 (replicate 32 1)

abbrev other_authority : Key
other_authority = Ed25519 (replicate 32 2)

abbrev authority_bytes : List ℕ
authority_bytes = hex "0000000b 7373682d65643235353139 00000020" ++ replicate 32 1

abbrev listing : Section → Krl
listing section = record { number = 1; date = 0; flags = 0; reserved = []; comment = []; sections = section ∷ [] }

abbrev of_serials : Section
of_serials = Certificates (Signer authority) (Numbers (Range 5 6) ∷ [])

-- A list of keys revokes a certificate by its key, and by the key that signed it (sshd_config(5),
-- "RevokedKeys").
abbrev pub RevokedKeys : Type 0
RevokedKeys = (revokes_key (listing (Keys (codes "k" ∷ []))) (codes "k") ≡ true) × (revokes_key (listing (Keys (codes "k" ∷ []))) (codes "j") ≡ false)
    × (revokes (listing (Keys (codes "k" ∷ []))) (codes "k") (certificate_identity (codes "s") 5 []) ≡ true)
    × (revokes (listing (Keys (codes "s" ∷ []))) (codes "k") (certificate_identity (codes "s") 5 []) ≡ true)
    × (revokes (listing (Keys (codes "r" ∷ []))) (codes "k") (certificate_identity (codes "s") 5 []) ≡ false)

-- A section about certificates is about those of its authority, or about everybody's; of these it has
-- a number or a key id. It revokes no key.
abbrev pub RevokedCertificates : Type 0
RevokedCertificates = (revokes (listing of_serials) (codes "k") (certificate_identity authority_bytes 5 []) ≡ true) × (revokes (listing of_serials) (codes "k") (certificate_identity authority_bytes 7 []) ≡ false)
    × (revokes (listing (Certificates (Signer other_authority) (Numbers (Range 5 6) ∷ []))) (codes "k") (certificate_identity authority_bytes 5 []) ≡ false)
    × (revokes (listing (Certificates Everybody (Numbers (Range 5 6) ∷ []))) (codes "k") (certificate_identity authority_bytes 5 []) ≡ true)
    × (revokes (listing (Certificates Everybody (KeyIds (codes "id" ∷ []) ∷ []))) (codes "k") (certificate_identity authority_bytes 5 (codes "id")) ≡ true)
    × (revokes (listing (Certificates Everybody (Numbers (Range 5 6) ∷ KeyIds (codes "id" ∷ []) ∷ []))) (codes "k") (certificate_identity authority_bytes 7 (codes "di")) ≡ false)
    × (revokes_key (listing of_serials) authority_bytes ≡ false)

-- A list that could not be read revokes all, and so never says that it revokes nothing.
abbrev pub Unread : Type 0
Unread = (unless_read {E = ℕ} (λ (n : ℕ). false) (Err 0) ≡ true) × (unless_read {E = ℕ} (λ (n : ℕ). false) (Ok 0) ≡ false)
    × (only_if_read {E = ℕ} (λ (n : ℕ). true) (Err 0) ≡ false) × (only_if_read {E = ℕ} (λ (n : ℕ). true) (Ok 0) ≡ true)

-- No bytes stand for everybody.
abbrev pub SectionAuthorities : Type 0
SectionAuthorities = (authority_from [] ≡ Ok Everybody) × (authority_from authority_bytes ≡ Ok (Signer authority)) × (authority_from (authority_bytes ++ hex "00") ≡ Err (TrailingData 1))
