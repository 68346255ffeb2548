-- The format of what a client signs: the term that it is read as.
use Rattle.std.specs.Prelude.{ℕ, List, Option, Some, None, Result, Ok, Err, bytes_eq, if◌then◌else◌}
use Rattle.sshkey_model.specs.Reading.{Fault, Label}
use Rattle.sshkey_model.specs.Formats.{Format}
use Rattle.sshkey_model.specs.Leaves.{string_format}
use Rattle.sshkey_model.specs.Terms.{◌then◌, called, tested, literal_format}
use Rattle.sshkey_userauth.specs.Requests.{UserauthRequest, Method, Publickey, Hostbound, method_name, message_number, has_signature}

-- the method of that name
abbrev pub method_from : List ℕ → Result Method Fault
method_from t =
    if bytes_eq t (method_name Publickey) then Ok Publickey
    else if bytes_eq t (method_name Hostbound) then Ok Hostbound
    else Err Label

abbrev pub method_format : Format Method
method_format = tested method_from string_format

-- the name of an algorithm, a key of it, and the server's host key
pub record Credential : Type 0 where
  pub algorithm : List ℕ
  pub public_key : List ℕ
  pub host_key : Option (List ℕ)

abbrev pub plain_credential : List ℕ × (List ℕ × List ℕ) → Credential
plain_credential x = record { algorithm = x.1.0; public_key = x.1.1; host_key = None }

abbrev pub bound_credential : List ℕ × (List ℕ × (List ℕ × List ℕ)) → Credential
bound_credential x = record { algorithm = x.1.0; public_key = x.1.1.0; host_key = Some x.1.1.1 }

abbrev pub signed_format : Format (List ℕ)
signed_format = literal_format has_signature

-- what follows the method's name
abbrev pub credential_format : Method → Format Credential
credential_format Publickey = tested (λ x. Ok (plain_credential x)) (signed_format then string_format then string_format)
credential_format Hostbound = tested (λ x. Ok (bound_credential x)) (signed_format then string_format then string_format then string_format)

abbrev pub method_and_credential : Format Credential
method_and_credential = called method_format credential_format

abbrev pub Opening : Type 0
Opening = List ℕ × (List ℕ × (List ℕ × List ℕ))

-- the session identifier, SSH_MSG_USERAUTH_REQUEST, the user's name and the service's name
abbrev pub opening_format : Format Opening
opening_format = string_format then literal_format message_number then string_format then string_format

abbrev pub request_with : Opening × Credential → UserauthRequest
request_with x = record { session_id = x.0.0; user = x.0.1.1.0; service = x.0.1.1.1; algorithm = x.1.algorithm; public_key = x.1.public_key; host_key = x.1.host_key }

abbrev pub request_of_parts : Opening × Credential → Result UserauthRequest Fault
request_of_parts x = Ok (request_with x)

abbrev pub userauth_format : Format UserauthRequest
userauth_format = tested request_of_parts (opening_format then method_and_credential)

-- the bytes spell the request
abbrev pub SpellsUserauthRequest : UserauthRequest → List ℕ → Type 0
SpellsUserauthRequest = userauth_format.Spells
