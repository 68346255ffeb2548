-- Which bytes spell an SSH signature, and how they are read.
use Rattle.std.specs.Prelude.{ℕ, List}
use Rattle.sshkey_model.specs.Reading.{Front}
use Rattle.sshkey_model.specs.SshSignatures.{SshSignature}
use Rattle.sshkey_sshsig.specs.SshSignatureFormats.{ssh_signature_format}

abbrev pub ssh_signature_value_at : Front SshSignature
ssh_signature_value_at = ssh_signature_format.read

-- the bytes spell the SSH signature
abbrev pub SpellsSshSignature : SshSignature → List ℕ → Type 0
SpellsSshSignature = ssh_signature_format.Spells
