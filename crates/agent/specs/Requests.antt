-- Requests to an agent (draft-miller-ssh-agent, section 4), their numbers (section 5.1), and how
-- they stand in a frame.
use Rattle.std.specs.Prelude.{ℕ, List, Result, Ok, Err, ◌==◌, if◌then◌else◌, map}
use Rattle.std.specs.Int.{w8}
use Rattle.std.specs.List.{AllByRecursion}
use Rattle.ssh_key.specs.model.Formats.{Format}
use Rattle.ssh_key.specs.model.Leaves.{string_format}
use Rattle.ssh_key.specs.model.Parts.{Parts, each, number, ◌&◌}
use Rattle.ssh_key.specs.model.Reading.{Fault, FormatEncoding}
use Rattle.ssh_key.specs.model.Texts.{string}
use Rattle.ssh_key.specs.model.Terms.{◌then◌, tested}
use Rattle.agent.specs.Records.{Constraint, IsWellFormedConstraint, constraint, constraint_of, constraints, framed, nothing_format, Addition, IsWellFormedAddition, SignRequest, addition, addition_format, addition_of, sign_request, sign_request_format, sign_request_of}
use Rattle.agent.specs.declared.addition.Addition as code_addition
use Rattle.agent.specs.declared.constraint.Constraint as code_constraint
use Rattle.agent.specs.declared.request.Request as code
use Rattle.agent.specs.declared.request.Request.TheVariants as variants
use Rattle.agent.specs.declared.request.kind.RequestKind.{RequestKind}
use Rattle.agent.specs.declared.request.kind.RequestKind.TheVariants as kinds

pub data Request : Type 0 where
  Identities RemoveAll : Request
  Sign : SignRequest → Request
  Add : Addition → Request
  AddConstrained : Addition → List Constraint → Request
  Remove Lock Unlock : List ℕ → Request

abbrev pub request_of : code.Request → Request
request_of variants.RequestIdentities = Identities
request_of (variants.SignRequest r) = Sign (sign_request_of r)
request_of (variants.AddIdentity a) = Add (addition_of a)
request_of (variants.RemoveIdentity key) = Remove key
request_of variants.RemoveAllIdentities = RemoveAll
request_of (variants.Lock passphrase) = Lock passphrase
request_of (variants.Unlock passphrase) = Unlock passphrase
request_of (variants.AddIdentityConstrained a cs) = AddConstrained (addition_of a) (map constraint_of cs.items)

-- the message that adds a key with these limits
abbrev pub constrained : code_addition.Addition → List code_constraint.Constraint → Parts
constrained a cs = number w8 25 & addition a & each constraint cs

-- the message that asks for a signature
abbrev pub to_sign : SignRequest → Parts
to_sign r = number w8 13 & sign_request r

-- the message of that number that holds a string
abbrev pub string_message : ℕ → List ℕ → Parts
string_message n bytes = number w8 n & string bytes

-- the number, and what it holds
abbrev pub request : code.Request → Parts
request variants.RequestIdentities = number w8 11
request (variants.SignRequest r) = to_sign (sign_request_of r)
request (variants.AddIdentity a) = number w8 17 & addition a
request (variants.RemoveIdentity key) = string_message 18 key
request variants.RemoveAllIdentities = number w8 19
request (variants.Lock passphrase) = string_message 22 passphrase
request (variants.Unlock passphrase) = string_message 23 passphrase
request (variants.AddIdentityConstrained a cs) = constrained a cs.items

-- ---- as a format

abbrev pub kind_from : ℕ → Result RequestKind Fault
kind_from n =
    if n == 11 then Ok kinds.RequestIdentities
    else if n == 13 then Ok kinds.SignRequest
    else if n == 17 then Ok kinds.AddIdentity
    else if n == 18 then Ok kinds.RemoveIdentity
    else if n == 19 then Ok kinds.RemoveAllIdentities
    else if n == 22 then Ok kinds.Lock
    else if n == 23 then Ok kinds.Unlock
    else if n == 25 then Ok kinds.AddIdentityConstrained
    else Err FormatEncoding

-- ---- what follows the number

-- a string, and the request that it makes
abbrev pub string_body : (List ℕ → Request) → Format Request
string_body make = tested (λ bytes. Ok (make bytes)) string_format

-- constraints go up to the end of the frame
abbrev pub constrained_body : Format Request
constrained_body = tested (λ a. Ok (AddConstrained a.0 a.1)) (addition_format then constraints)

abbrev pub body : RequestKind → Format Request
body kinds.RequestIdentities = nothing_format Identities
body kinds.SignRequest = tested (λ r. Ok (Sign r)) sign_request_format
body kinds.AddIdentity = tested (λ a. Ok (Add a)) addition_format
body kinds.RemoveIdentity = string_body Remove
body kinds.RemoveAllIdentities = nothing_format RemoveAll
body kinds.Lock = string_body Lock
body kinds.Unlock = string_body Unlock
body kinds.AddIdentityConstrained = constrained_body

-- a request in its frame
abbrev pub request_format : Format Request
request_format = framed kind_from body

-- What is added is a pair of its format, and the names of constraints are UTF-8.
abbrev pub IsWellFormed : code.Request → Type 0
IsWellFormed variants.RequestIdentities = Unit {0}
IsWellFormed (variants.SignRequest r) = Unit {0}
IsWellFormed (variants.AddIdentity a) = IsWellFormedAddition a
IsWellFormed (variants.RemoveIdentity key) = Unit {0}
IsWellFormed variants.RemoveAllIdentities = Unit {0}
IsWellFormed (variants.Lock passphrase) = Unit {0}
IsWellFormed (variants.Unlock passphrase) = Unit {0}
IsWellFormed (variants.AddIdentityConstrained a cs) = IsWellFormedAddition a × AllByRecursion IsWellFormedConstraint cs.items
