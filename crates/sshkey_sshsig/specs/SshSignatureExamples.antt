-- Worked examples: SSH signatures.
use Rattle.std.specs.Prelude.{◌≡◌, ℕ, List, [], ◌++◌, length, take, drop, replicate, Ok, Err, codes}
use Rattle.sshkey_model.specs.HexText.{hex}
use Rattle.sshkey_model.specs.Parts.{flat}
use Rattle.sshkey_model.specs.Reading.{Length, CharacterEncoding, Label, TrailingData, FormatEncoding, Namespace, Version, whole}
use Rattle.sshkey_model.specs.Names.{Sha512, Algorithm}
use Rattle.sshkey_model.specs.Keys.{Head256}
use Rattle.sshkey_model.specs.SshSignatures.{SshSignature, ssh_signature, normal_ssh_signature}
use Rattle.sshkey_model.specs.SshSignatureExamples.{file_signature}
use Rattle.sshkey_model.specs.KeyExamples.{ed25519_bytes, rsa_key, rsa_bytes, rsa_256_bytes}
use Rattle.sshkey_sshsig.specs.SshSignatureFormats.{ssh_signature_value_at}

abbrev pub signature_box : List ℕ
signature_box = hex "00000053 0000000b 7373682d65643235353139 00000040" ++ replicate 64 0

-- the magic bytes, that version, the key, these bytes, and the signature
abbrev pub file_bytes : List ℕ → List ℕ → List ℕ
file_bytes version middle = hex "535348534947" ++ version ++ hex "00000033" ++ ed25519_bytes ++ middle ++ signature_box

-- `file`, nothing reserved, `sha256`
abbrev pub file_middle : List ℕ
file_middle = hex "00000004 66696c65 00000000 00000006 736861323536"

-- Versions 0 and 1 are read, kept and written; 2 is refused. Reserved bytes are kept.
abbrev pub Versions : Type 0
Versions = (length (file_bytes (hex "00000001") file_middle) ≡ 174)
    × (ssh_signature_value_at (file_bytes (hex "00000001") file_middle) ≡ Ok (file_signature 1 [], []))
    × (flat (normal_ssh_signature (file_signature 1 [])) ≡ file_bytes (hex "00000001") file_middle)
    × (ssh_signature_value_at (file_bytes (hex "00000000") file_middle) ≡ Ok (file_signature 0 [], []))
    × (flat (normal_ssh_signature (file_signature 0 [])) ≡ file_bytes (hex "00000000") file_middle)
    × (ssh_signature_value_at (file_bytes (hex "00000002") file_middle) ≡ Err (Version 2))
    × (ssh_signature_value_at (file_bytes (hex "ffffffff") file_middle) ≡ Err (Version 0xffffffff))
    × (ssh_signature_value_at (file_bytes (hex "00000001") (hex "00000004 66696c65 00000002 aabb 00000006 736861323536")) ≡ Ok (file_signature 1 (hex "aabb"), []))

-- Each field with a fault, one after the other.
abbrev pub SshSignatureFaults : Type 0
SshSignatureFaults = (ssh_signature_value_at (hex "535348534948" ++ drop 6 (file_bytes (hex "00000001") file_middle)) ≡ Err FormatEncoding)
    × (ssh_signature_value_at (hex "535348") ≡ Err Length)
    × (ssh_signature_value_at (hex "535348534947 00000001 00000034" ++ ed25519_bytes ++ hex "00" ++ file_middle ++ signature_box) ≡ Err (TrailingData 1))
    × (ssh_signature_value_at (file_bytes (hex "00000001") (hex "00000000 00000000 00000006 736861323536")) ≡ Err Namespace)
    × (ssh_signature_value_at (file_bytes (hex "00000001") (hex "00000001 ff 00000000 00000006 736861323536")) ≡ Err CharacterEncoding)
    × (ssh_signature_value_at (file_bytes (hex "00000001") (hex "00000001 61 00000000 00000006 736861323537")) ≡ Err Label)
    × (ssh_signature_value_at (hex "535348534947 00000001 00000033" ++ ed25519_bytes ++ file_middle ++ hex "00000056" ++ drop 4 signature_box ++ hex "000000") ≡ Err (TrailingData 3))
    × (whole ssh_signature_value_at (file_bytes (hex "00000001") file_middle ++ hex "00") ≡ Err (TrailingData 1))
    × (ssh_signature_value_at (take 173 (file_bytes (hex "00000001") file_middle)) ≡ Err Length)

abbrev pub rsa_file_signature : SshSignature
rsa_file_signature = record { version = 1; key = rsa_key; namespace = codes "a"; reserved = []; hash = Sha512; signature = record { algorithm = Algorithm.Ed25519; blob = replicate 64 0 } }

abbrev pub rsa_middle : List ℕ
rsa_middle = hex "00000001 61 00000000 00000006 736861353132" ++ signature_box

-- A key under a name with a hash is read as the key, and written under its own name.
abbrev pub SignerNames : Type 0
SignerNames = (ssh_signature_value_at (hex "535348534947 00000001 0000001d" ++ rsa_256_bytes ++ rsa_middle) ≡ Ok (rsa_file_signature, []))
    × (flat (ssh_signature rsa_file_signature Head256) ≡ hex "535348534947 00000001 0000001d" ++ rsa_256_bytes ++ rsa_middle)
    × (flat (normal_ssh_signature rsa_file_signature) ≡ hex "535348534947 00000001 00000018" ++ rsa_bytes ++ rsa_middle)
