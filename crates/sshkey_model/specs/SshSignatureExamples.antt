-- Worked examples: SSH signatures.
use Rattle.std.specs.Prelude.{◌≡◌, ℕ, List, [], ◌++◌, length, replicate, codes}
use Rattle.sshkey_model.specs.HexText.{hex}
use Rattle.sshkey_model.specs.Parts.{flat}
use Rattle.sshkey_model.specs.Names.{Sha256, Sha512, Algorithm}
use Rattle.sshkey_model.specs.SshSignatures.{SshSignature, IsSshSignature, IsNamespace, signed_data}
use Rattle.sshkey_model.specs.KeyExamples.{ed25519_key}
use Rattle.sshkey_model.specs.DispatchExamples.{empty_digest}
use Rattle.sshkey_model.specs.Lines.{key_line}
use Rattle.sshkey_model.specs.SignedMessages.{signed_message}

-- In the namespace `file`, over the empty message.
abbrev pub SignedData : Type 0
SignedData = (flat (signed_data (codes "file") [] Sha256 empty_digest) ≡ hex "535348534947 00000004 66696c65 00000000 00000006 736861323536 00000020" ++ empty_digest)
    × (length (flat (signed_data (codes "file") [] Sha256 empty_digest)) ≡ 64)
    × (flat (signed_data (codes "file") (hex "aa") Sha512 (replicate 64 1)) ≡ hex "535348534947 00000004 66696c65 00000001 aa 00000006 736861353132 00000040" ++ replicate 64 1)

-- by K in the namespace `file`, of that version and with these reserved bytes
abbrev pub file_signature : ℕ → List ℕ → SshSignature
file_signature version reserved = record { version = version; key = ed25519_key; namespace = codes "file"; reserved = reserved; hash = Sha256; signature = record { algorithm = Algorithm.Ed25519; blob = replicate 64 0 } }

-- None has version 2 or an empty namespace.
abbrev pub IllFormed : Type 0
IllFormed = (IsSshSignature (file_signature 2 []) → ⊥) × (IsNamespace [] → ⊥)

-- The digest of the empty message stands in what is signed in its place.
abbrev pub SignedMessage : Type 0
SignedMessage = signed_message (codes "file") [] Sha256 [] ≡ signed_data (codes "file") [] Sha256 empty_digest

-- A comment has a space before it, and an empty one none.
abbrev pub KeyLine : Type 0
KeyLine = (key_line ed25519_key (codes "user@example.com") ≡ codes "ssh-ed25519 AAAAC3NzaC1lZDI1NTE5AAAAILM+rvN+ot98qgEN796jTiQfZfG1KaT0PtFDJ/XFSqti user@example.com")
    × (key_line ed25519_key [] ≡ codes "ssh-ed25519 AAAAC3NzaC1lZDI1NTE5AAAAILM+rvN+ot98qgEN796jTiQfZfG1KaT0PtFDJ/XFSqti")
