-- What a client signs for a login by public key (RFC 4252, section 7), and with the server's host
-- key after its own (OpenSSH, PROTOCOL, section 3.1).
use Rattle.std.specs.Prelude.{ℕ, List, [], ◌∷◌, Option, Some, None, codes}
use Rattle.sshkey_model.specs.Parts.{Parts, bytes, ◌&◌}
use Rattle.sshkey_model.specs.Texts.{string}

pub record UserauthRequest : Type 0 where
  pub session_id : List ℕ
  pub user : List ℕ
  pub service : List ℕ
  -- the name of the public key's algorithm
  pub algorithm : List ℕ
  pub public_key : List ℕ
  -- the server's, where the method has one
  pub host_key : Option (List ℕ)

pub data Method : Type 0 where
  Publickey : Method
  Hostbound : Method

abbrev pub method_name : Method → List ℕ
method_name Publickey = codes "publickey"
method_name Hostbound = codes "publickey-hostbound-v00@openssh.com"

-- The method with a host key is the one that names it.
abbrev pub method_of : Option (List ℕ) → Method
method_of None = Publickey
method_of (Some host_key) = Hostbound

-- SSH_MSG_USERAUTH_REQUEST
abbrev pub message_number : List ℕ
message_number = 50 ∷ []

-- TRUE: a signature follows
abbrev pub has_signature : List ℕ
has_signature = 1 ∷ []

abbrev pub keys : List ℕ → Option (List ℕ) → Parts
keys public_key None = string public_key
keys public_key (Some host_key) = string public_key & string host_key

-- the session identifier, SSH_MSG_USERAUTH_REQUEST, the user's name, the service's name, the
-- method's name, TRUE, the algorithm's name, the public key, and the host key
abbrev pub userauth_request : UserauthRequest → Parts
userauth_request r = string r.session_id & bytes message_number & string r.user & string r.service & string (method_name (method_of r.host_key)) & bytes has_signature & string r.algorithm & keys r.public_key r.host_key
