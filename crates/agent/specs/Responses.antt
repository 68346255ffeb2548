-- Responses of an agent (draft-miller-ssh-agent, sections 4 and 4.7), their numbers (section 5.1),
-- and how they stand in a frame.
use Rattle.std.specs.Prelude.{ℕ, List, map, Option, Some, None, Result, Ok, Err, ◌==◌, if◌then◌else◌}
use Rattle.std.specs.Int.{w8}
use Rattle.ssh_key.specs.model.Formats.{Format}
use Rattle.ssh_key.specs.model.Leaves.{string_format}
use Rattle.ssh_key.specs.keys.Signatures.{signature_of}
use Rattle.ssh_key.specs.model.Parts.{Parts, box, each, number, ◌&◌}
use Rattle.ssh_key.specs.model.Reading.{Fault, FormatEncoding}
use Rattle.ssh_key.specs.model.Signatures.{Signature, IsSignature, signature, signature_format}
use Rattle.ssh_key.specs.model.Texts.{string}
use Rattle.ssh_key.specs.model.Counted.{counted, counted_format}
use Rattle.ssh_key.specs.model.Terms.{◌then◌, boxed, tested}
use Rattle.ssh_key.specs.model.ToEnd.{values_to_end}
use Rattle.ssh_key.specs.types.Signature as code_signature
use Rattle.agent.specs.Records.{framed, nothing_format, Identity, identity, identity_format, identity_of}
use Rattle.agent.specs.declared.identity.Identity as code_identity
use Rattle.agent.specs.declared.response.Response as code
use Rattle.agent.specs.declared.response.Response.TheVariants as variants
use Rattle.agent.specs.declared.response.kind.ResponseKind.{ResponseKind}
use Rattle.agent.specs.declared.response.kind.ResponseKind.TheVariants as kinds

pub data Response : Type 0 where
  Failure Success : Response
  Identities : List Identity → Response
  Signed : Signature → Response
  ExtensionFailure : Response
  Extension : List ℕ → List (List ℕ) → Response

abbrev pub response_of : code.Response → Response
response_of variants.Failure = Failure
response_of variants.Success = Success
response_of (variants.IdentitiesAnswer keys) = Identities (map identity_of keys.items)
response_of (variants.SignResponse g) = Signed (signature_of g)
response_of variants.ExtensionFailure = ExtensionFailure
response_of (variants.ExtensionResponse name contents) = Extension name contents.items

-- the signature, of a response that is one
abbrev pub given_of : code.Response → Option code_signature.Signature
given_of variants.Failure = None
given_of variants.Success = None
given_of (variants.IdentitiesAnswer keys) = None
given_of (variants.SignResponse g) = Some g
given_of variants.ExtensionFailure = None
given_of (variants.ExtensionResponse name contents) = None

-- the keys, after their number
abbrev pub answer : List code_identity.Identity → Parts
answer keys = counted (λ i. identity (identity_of i)) keys

-- the signature, in a string
abbrev pub signed : code_signature.Signature → Parts
signed g = box (signature (signature_of g))

-- the messages that hold these
abbrev pub answered : List code_identity.Identity → Parts
answered keys = number w8 12 & answer keys

abbrev pub given : code_signature.Signature → Parts
given g = number w8 14 & signed g

-- the message of an extension: its name, and strings
abbrev pub extended : List ℕ → List (List ℕ) → Parts
extended name contents = number w8 29 & string name & each string contents

-- the number, and what it holds
abbrev pub response : code.Response → Parts
response variants.Failure = number w8 5
response variants.Success = number w8 6
response (variants.IdentitiesAnswer keys) = answered keys.items
response (variants.SignResponse g) = given g
response variants.ExtensionFailure = number w8 28
response (variants.ExtensionResponse name contents) = extended name contents.items

-- ---- as a format

abbrev pub kind_from : ℕ → Result ResponseKind Fault
kind_from n =
    if n == 5 then Ok kinds.Failure
    else if n == 6 then Ok kinds.Success
    else if n == 12 then Ok kinds.IdentitiesAnswer
    else if n == 14 then Ok kinds.SignResponse
    else if n == 28 then Ok kinds.ExtensionFailure
    else if n == 29 then Ok kinds.ExtensionResponse
    else Err FormatEncoding

-- strings go up to the end of the frame
abbrev pub strings : Format (List (List ℕ))
strings = values_to_end string_format

abbrev pub extension_body : Format Response
extension_body = tested (λ e. Ok (Extension e.0 e.1)) (string_format then strings)

-- what follows the number
abbrev pub body : ResponseKind → Format Response
body kinds.Failure = nothing_format Failure
body kinds.Success = nothing_format Success
body kinds.IdentitiesAnswer = tested (λ keys. Ok (Identities keys)) (counted_format identity_format)
body kinds.SignResponse = tested (λ g. Ok (Signed g)) (boxed signature_format)
body kinds.ExtensionFailure = nothing_format ExtensionFailure
body kinds.ExtensionResponse = extension_body

-- a response in its frame
abbrev pub response_format : Format Response
response_format = framed kind_from body

-- The signature is one of its algorithm.
abbrev pub IsWellFormed : code.Response → Type 0
IsWellFormed variants.Failure = Unit {0}
IsWellFormed variants.Success = Unit {0}
IsWellFormed (variants.IdentitiesAnswer keys) = Unit {0}
IsWellFormed (variants.SignResponse g) = IsSignature (signature_of g)
IsWellFormed variants.ExtensionFailure = Unit {0}
IsWellFormed (variants.ExtensionResponse name contents) = Unit {0}
