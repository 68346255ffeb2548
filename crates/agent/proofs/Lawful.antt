-- The formats are lawful.
use Rattle.std.proofs.Common.{ℕ, Result, ap, arith, length}
use Rattle.ssh_key.proofs.Grammars.{by_itself}
use Rattle.ssh_key.proofs.Lawful.{boxed_lawful, byte_lawful, called_lawful, counted_lawful, keypair_lawful, no_lengths, number32_lawful, signature_lawful, string_lawful, tested_lawful, text_lawful, then_lawful, values_to_end_lawful}
use Rattle.ssh_key.proofs.Writing.{length_box}
use Rattle.ssh_key.specs.model.Formats.{Format, IsFormat}
use Rattle.ssh_key.specs.model.Leaves.{string_format}
use Rattle.ssh_key.specs.model.Parts.{bytes}
use Rattle.ssh_key.specs.model.Reading.{Fault}
use Rattle.ssh_key.specs.model.ToEnd.{HasBytes}
use Rattle.agent.specs.Records.{body_format, constraint_format, constraints, message, nothing_at, nothing_format, addition_format, addition_of_parts, identity_format, identity_of_parts, sign_request_format, sign_request_of_parts}
use Rattle.agent.specs.Records as constraint
use Rattle.agent.specs.Requests as request
use Rattle.agent.specs.Requests.{request_format}
use Rattle.agent.specs.Responses as response
use Rattle.agent.specs.Responses.{response_format, strings}
use Rattle.agent.specs.declared.constraint.kind.ConstraintKind.{ConstraintKind}
use Rattle.agent.specs.declared.constraint.kind.ConstraintKind.TheVariants as constraint_kinds
use Rattle.agent.specs.declared.request.kind.RequestKind.{RequestKind}
use Rattle.agent.specs.declared.request.kind.RequestKind.TheVariants as request_kinds
use Rattle.agent.specs.declared.response.kind.ResponseKind.{ResponseKind}
use Rattle.agent.specs.declared.response.kind.ResponseKind.TheVariants as response_kinds
use Rattle.agent.proofs.Frames.{nothing_grammar, number_shows}

nothing_lawful : {A : Type 0} (value : A) → IsFormat (nothing_format value)
nothing_lawful value = record { grammar = by_itself (nothing_grammar value); lengths = no_lengths (nothing_at value) }

pub message_lawful : {K M : Type 0} (kind_from : ℕ → Result K Fault) {body : K → Format M} → ((k : K) → IsFormat (body k)) → IsFormat (message kind_from body)
message_lawful kind_from laws = called_lawful (tested_lawful kind_from byte_lawful) laws

-- ---- records

pub identity_lawful : IsFormat identity_format
identity_lawful = tested_lawful identity_of_parts (then_lawful string_lawful string_lawful)

pub sign_request_lawful : IsFormat sign_request_format
sign_request_lawful = tested_lawful sign_request_of_parts (then_lawful string_lawful (then_lawful string_lawful number32_lawful))

pub addition_lawful : IsFormat addition_format
addition_lawful = tested_lawful addition_of_parts (then_lawful keypair_lawful string_lawful)

-- ---- constraints

constraint_body_lawful : (k : ConstraintKind) → IsFormat (body_format k)
constraint_body_lawful constraint_kinds.Lifetime = tested_lawful _ number32_lawful
constraint_body_lawful constraint_kinds.Confirm = nothing_lawful _
constraint_body_lawful constraint_kinds.Extension = tested_lawful _ (then_lawful text_lawful string_lawful)

pub constraint_lawful : IsFormat constraint_format
constraint_lawful = message_lawful constraint.kind_from constraint_body_lawful

pub has_bytes : HasBytes constraint_format
has_bytes = number_shows constraint.kind_from (λ k. (body_format k).Spells)

pub constraints_lawful : IsFormat constraints
constraints_lawful = values_to_end_lawful has_bytes constraint_lawful

-- ---- messages

pub request_body_lawful : (k : RequestKind) → IsFormat (request.body k)
request_body_lawful request_kinds.RequestIdentities = nothing_lawful _
request_body_lawful request_kinds.SignRequest = tested_lawful _ sign_request_lawful
request_body_lawful request_kinds.AddIdentity = tested_lawful _ addition_lawful
request_body_lawful request_kinds.RemoveIdentity = tested_lawful _ string_lawful
request_body_lawful request_kinds.RemoveAllIdentities = nothing_lawful _
request_body_lawful request_kinds.Lock = tested_lawful _ string_lawful
request_body_lawful request_kinds.Unlock = tested_lawful _ string_lawful
request_body_lawful request_kinds.AddIdentityConstrained = tested_lawful _ (then_lawful addition_lawful constraints_lawful)

pub request_lawful : IsFormat request_format
request_lawful = boxed_lawful (message_lawful request.kind_from request_body_lawful)

pub string_shows : HasBytes string_format
string_shows x b s = omega (arith, ap length s.shape, length_box (bytes x))

pub strings_lawful : IsFormat strings
strings_lawful = values_to_end_lawful string_shows string_lawful

pub response_body_lawful : (k : ResponseKind) → IsFormat (response.body k)
response_body_lawful response_kinds.Failure = nothing_lawful _
response_body_lawful response_kinds.Success = nothing_lawful _
response_body_lawful response_kinds.IdentitiesAnswer = tested_lawful _ (counted_lawful identity_lawful)
response_body_lawful response_kinds.SignResponse = tested_lawful _ (boxed_lawful signature_lawful)
response_body_lawful response_kinds.ExtensionFailure = nothing_lawful _
response_body_lawful response_kinds.ExtensionResponse = tested_lawful _ (then_lawful string_lawful strings_lawful)

pub response_lawful : IsFormat response_format
response_lawful = boxed_lawful (message_lawful response.kind_from response_body_lawful)
