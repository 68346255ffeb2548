-- Worked examples: the lines of a text, and what stands in them.
use Rattle.std.specs.Prelude.{◌≡◌, ℕ, List, [], ◌∷◌, ◌++◌, length, true, false, codes, replicate}
use Rattle.base64.specs.Engines.{standard}
use Rattle.base64.specs.GeneralPurpose.{IsBytes, encode_of}
use Rattle.sshkey_model.specs.CertificateExamples.{openssh_certificate}
use Rattle.sshkey_model.specs.Certificates.{Certificate}
use Rattle.sshkey_model.specs.HexText.{hex}
use Rattle.sshkey_model.specs.Keys.{Key, Ecdsa, Ed25519, Rsa}
use Rattle.sshkey_model.specs.Names.{Nistp256}
use Rattle.sshkey_revoked_keys.specs.RevokedKeys.{IsLaterKey, later_blob, later_front, IsReadCertificate, IsReadKey, begins_krl, is_certified_name, revoked_lines}

-- Blanks in front, empty lines and comments are passed over; a last line needs no end, and a carriage
-- return stays with its line.
abbrev pub Lines : Type 0
Lines = (revoked_lines [] ≡ [])
    × (revoked_lines (codes "a b\n\t c d\n\n  \n#e\n #f\nx") ≡ codes "a b" ∷ codes "c d" ∷ codes "x" ∷ [])
    × (revoked_lines (codes "a\r\n\r\nb#c\n") ≡ codes "a\r" ∷ codes "\r" ∷ codes "b#c" ∷ [])

-- A line is that of a certificate by its name alone (PROTOCOL.certkeys).
abbrev pub CertificateNames : Type 0
CertificateNames = (is_certified_name (codes "ssh-ed25519-cert-v01@openssh.com") ≡ true) × (is_certified_name (codes "ssh-rsa-cert-v01@openssh.com") ≡ true) × (is_certified_name (codes "sk-ssh-ed25519-cert-v01@openssh.com") ≡ true)
    × (is_certified_name (codes "ssh-ed25519") ≡ false) × (is_certified_name (codes "sk-ssh-ed25519@openssh.com") ≡ false) × (is_certified_name (codes "ssh-ed25519-cert-v00@openssh.com") ≡ false) × (is_certified_name [] ≡ false)

-- A list begins with the eight bytes of PROTOCOL.krl.
abbrev pub Beginnings : Type 0
Beginnings = (begins_krl (hex "5353484b524c0a00") ≡ true) × (begins_krl (hex "5353484b524c0a") ≡ false) × (begins_krl (hex "5353484b524c0a01") ≡ false) × (begins_krl [] ≡ false)

-- ---- what OpenSSH reads

abbrev rsa_of_1023_bits : Key
rsa_of_1023_bits = Rsa (record { e = 1 ∷ 0 ∷ 1 ∷ []; n = 0x40 ∷ replicate 127 0 })

abbrev rsa_of_1024_bits : Key
rsa_of_1024_bits = Rsa (record { e = 1 ∷ 0 ∷ 1 ∷ []; n = 0 ∷ 0x80 ∷ replicate 127 0 })

abbrev compressed : Key
compressed = Ecdsa Nistp256 (2 ∷ replicate 32 1)

abbrev ed25519 : Key
ed25519 = Ed25519 (replicate 32 1)

abbrev certificate : Key → Key → List ℕ → List (List ℕ) → Certificate
certificate key signer key_id principals = record openssh_certificate { signed = record openssh_certificate.signed { key = key; signature_key = signer; key_id = key_id; valid_principals = principals } }

-- A line's key may be too short to let somebody in, one that signed a certificate may not; and each
-- part of a certificate has to be read.
abbrev pub ReadKeys : Type 0
ReadKeys = IsReadKey rsa_of_1023_bits × ¬ IsReadKey compressed
    × IsReadCertificate (certificate rsa_of_1023_bits rsa_of_1024_bits (codes "id") (codes "root" ∷ []))
    × ¬ IsReadCertificate (certificate compressed ed25519 (codes "id") (codes "root" ∷ []))
    × ¬ IsReadCertificate (certificate ed25519 rsa_of_1023_bits (codes "id") (codes "root" ∷ []))
    × ¬ IsReadCertificate (certificate ed25519 ed25519 (codes "i\0d") (codes "root" ∷ []))
    × ¬ IsReadCertificate (certificate ed25519 ed25519 (codes "id") (codes "ro\0ot" ∷ []))

-- A key of 10.6 has 1,344 bytes after its name, and stands under that name alone (`ssh-keygen -t
-- mldsa44-ed25519`).
abbrev pub LaterKeys : Type 0
LaterKeys = (later_blob (1 ∷ []) ≡ hex "000000137373682d6d6c64736134342d656432353531390000000101")
    × ((own : List ℕ) → length own ≡ 1344 → later_blob own ≡ later_front ++ own)
    × ((own : List ℕ) → length own ≡ 1344 → IsBytes (later_blob own) → IsLaterKey (codes "ssh-mldsa44-ed25519") (encode_of standard (later_blob own)) (later_blob own))
    × ((own word : List ℕ) → length own ≡ 1343 → ¬ IsLaterKey (codes "ssh-mldsa44-ed25519") word (later_blob own))
    × ((own word : List ℕ) → length own ≡ 1345 → ¬ IsLaterKey (codes "ssh-mldsa44-ed25519") word (later_blob own))
    × ((word blob : List ℕ) → ¬ IsLaterKey (codes "ssh-mldsa65-ed25519") word blob)
    × ((word blob : List ℕ) → ¬ IsLaterKey (codes "ssh-ed25519") word blob)
