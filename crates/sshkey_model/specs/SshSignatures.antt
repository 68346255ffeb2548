-- SSH signatures of messages and files (PROTOCOL.sshsig).
use Rattle.std.specs.Prelude.{◌≡◌, ℕ, List, length, true, nat_lt, codes}
use Rattle.std.specs.Int.{w32}
use Rattle.sshkey_model.specs.Parts.{Parts, bytes, number, box, ◌&◌}
use Rattle.sshkey_model.specs.Texts.{string, IsText}
use Rattle.sshkey_model.specs.Names.{Hash, hash}
use Rattle.sshkey_model.specs.Keys.{Key, Head, Plain, HasKeyPlaces, IsKey, key}
use Rattle.sshkey_model.specs.Signatures.{Signature, IsSignature, signature}

pub record SshSignature : Type 0 where
  pub version : ℕ
  pub key : Key
  pub namespace : List ℕ
  pub reserved : List ℕ
  pub hash : Hash
  pub signature : Signature

abbrev pub signature_magic : List ℕ
signature_magic = codes "SSHSIG"

-- what the signature is over, where the digest is that of the message
abbrev pub signed_data : List ℕ → List ℕ → Hash → List ℕ → Parts
signed_data namespace reserved h digest = bytes signature_magic & string namespace & string reserved & hash h & string digest

-- The choice is that of the key's name.
abbrev pub ssh_signature : SshSignature → Head → Parts
ssh_signature f head = bytes signature_magic & number w32 f.version & box (key f.key head) & string f.namespace & string f.reserved & hash f.hash & box (signature f.signature)

abbrev pub IsNamespace : List ℕ → Type 0
IsNamespace n = IsText n × (nat_lt 0 (length n) ≡ true)

-- Versions 0 and 1 are read and kept.
pub record IsSshSignature (f : SshSignature) : Type 0 where
  pub version : nat_lt f.version 2 ≡ true
  pub key : IsKey f.key
  pub namespace : IsNamespace f.namespace
  pub signature : IsSignature f.signature

abbrev pub HasSshSignaturePlaces : SshSignature → Head → Type 0
HasSshSignaturePlaces f head = HasKeyPlaces f.key head

abbrev pub normal_ssh_signature : SshSignature → Parts
normal_ssh_signature f = ssh_signature f Plain
