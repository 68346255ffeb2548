-- What an SSH signature means.
use Rattle.std.specs.Prelude.{ℕ, List}
use Rattle.sshkey_model.specs.Names.{hash}
use Rattle.sshkey_model.specs.Parts.{Parts, box, ◌&◌}
use Rattle.sshkey_model.specs.Signatures.{signature}
use Rattle.sshkey_model.specs.SshSignatures as model
use Rattle.sshkey_model.specs.Texts.{string}
use Rattle.sshkey_base.specs.Names.{hash_of}
use Rattle.sshkey_keys.specs.Keys.{key_of}
use Rattle.sshkey_keys.specs.Signatures.{signature_of}
use Rattle.sshkey_keys.specs.declared.key_data.KeyData.{KeyData}
use Rattle.sshkey_keys.specs.declared.signature.Signature.{Signature}
use Rattle.sshkey_sshsig.specs.declared.sshsig.SshSig.{SshSig}
use Rattle.sshkey_sshsig.specs.declared.sshsig.part.Magic.{Magic}
use Rattle.sshkey_sshsig.specs.declared.sshsig.part.Version.{Version}
use Rattle.sshkey_sshsig.specs.declared.sshsig.part.Namespace.{Namespace}

-- the key that it is by
abbrev pub signer_of : SshSig → KeyData
signer_of f = f.public_key

-- the signature in it
abbrev pub given_of : SshSig → Signature
given_of f = f.signature

abbrev pub ssh_signature_of : SshSig → model.SshSignature
ssh_signature_of f = record { version = f.version; key = key_of f.public_key; namespace = f.namespace; reserved = f.reserved; hash = hash_of f.hash_alg; signature = signature_of f.signature }

-- what follows the key
abbrev pub statement : model.SshSignature → Parts
statement f = string f.namespace & string f.reserved & hash f.hash & box (signature f.signature)

-- ---- fields that are judged by themselves

abbrev pub magic_of : Magic → List ℕ
magic_of m = m.0

abbrev pub version_of : Version → ℕ
version_of v = v.number

abbrev pub namespace_of : Namespace → List ℕ
namespace_of n = n.text
