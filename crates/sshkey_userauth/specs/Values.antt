-- What requests mean.
use Rattle.std.specs.Prelude.{ℕ, List, option_map}
use denote.Ref.{Bor}
use Rattle.sshkey_userauth.specs.Requests as model
use Rattle.sshkey_userauth.specs.RequestFormats as formats
use Rattle.sshkey_userauth.specs.declared.request.UserauthRequest.{UserauthRequest}
use Rattle.sshkey_userauth.specs.declared.request.part.Method.{Method}
use Rattle.sshkey_userauth.specs.declared.request.part.Method.TheVariants as methods
use Rattle.sshkey_userauth.specs.declared.request.part.Credential.{Credential}

-- the bytes that a slice lends
abbrev pub lent : Bor (List ℕ) → List ℕ
lent b = b.now

-- two lent slices
abbrev pub both : Bor (List ℕ) × Bor (List ℕ) → List ℕ × List ℕ
both p = (lent p.0, lent p.1)

abbrev pub request_of : UserauthRequest → model.UserauthRequest
request_of r = record { session_id = r.session_id.now; user = r.user.now; service = r.service.now; algorithm = r.algorithm.now; public_key = r.public_key.now; host_key = option_map lent r.host_key }

abbrev pub method_of : Method → model.Method
method_of methods.Publickey = model.Publickey
method_of methods.Hostbound = model.Hostbound

abbrev pub credential_of : Credential → formats.Credential
credential_of c = record { algorithm = c.algorithm.now; public_key = c.public_key.now; host_key = option_map lent c.host_key }
