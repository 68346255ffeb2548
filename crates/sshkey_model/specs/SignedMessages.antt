-- What an SSH signature says of a message (PROTOCOL.sshsig).
use Rattle.std.specs.Prelude.{◌≡◌, ℕ, List, [], Bool}
use Rattle.sshkey_model.specs.Parts.{Parts, flat}
use Rattle.sshkey_model.specs.Names.{Hash}
use Rattle.sshkey_model.specs.Keys.{Key}
use Rattle.sshkey_model.specs.Signatures.{Signature}
use Rattle.sshkey_model.specs.SshSignatures.{SshSignature, signed_data}
use Rattle.sshkey_model.specs.Fingerprints.{digest}
use Rattle.sshkey_model.specs.Verification.{Question, IsAccepted}

-- what is signed in place of a message: its digest stands in it
abbrev pub signed_message : List ℕ → List ℕ → Hash → List ℕ → Parts
signed_message namespace reserved h message = signed_data namespace reserved h (digest h message)

-- what a signature of the message has signed, by its own namespace, reserved bytes and hash
abbrev pub signed_by : SshSignature → List ℕ → List ℕ
signed_by f message = flat (signed_message f.namespace f.reserved f.hash message)

-- It is by the key and of the namespace, and the verifier accepts its signature of the message.
pub record IsVerified (accepts : Question → Bool) (k : Key) (namespace message : List ℕ) (f : SshSignature) : Type 0 where
  pub same_key : f.key ≡ k
  pub same_namespace : f.namespace ≡ namespace
  pub accepted : IsAccepted accepts k (signed_by f message) f.signature

-- what signing makes: version 1, and nothing reserved
abbrev pub made_by : Key → List ℕ → Hash → Signature → SshSignature
made_by k namespace h g = record { version = 1; key = k; namespace = namespace; reserved = []; hash = h; signature = g }
