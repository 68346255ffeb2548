-- How requests are read, and that what is written of them is a spelling.
use Rattle.std.proofs.Common.{ℕ, List, Ok, refl}
use Rattle.std.specs.Prelude.{map}
use Rattle.ssh_key.proofs.Grammars.{all_end, both_at}
use Rattle.ssh_key.proofs.Lawful.{IsMapped}
use Rattle.ssh_key.specs.model.Grammar.{IsGrammar, normal_is_spelling}
use Rattle.ssh_key.specs.model.Parts.{box, each, flat, Fits, ◌&◌}
use Rattle.ssh_key.specs.model.Texts.{string}
use Rattle.agent.specs.Records.{constraint, constraint_of, constraints, message, addition, addition_format, addition_of, sign_request, sign_request_of}
use Rattle.agent.specs.Requests.{Add, AddConstrained, Identities, IsWellFormed, Lock, Remove, RemoveAll, Request, Sign, Unlock, body, constrained_body, kind_from, request, request_format, request_of, string_body}
use Rattle.agent.specs.declared.request.Request as code
use Rattle.agent.specs.declared.request.Request.TheVariants as variants
use Rattle.agent.specs.declared.request.kind.RequestKind.{RequestKind}
use Rattle.agent.specs.declared.request.kind.RequestKind.TheVariants as kinds
use Rattle.agent.proofs.Constraints.{constraints_normal}
use Rattle.agent.proofs.Lawful.{addition_lawful, request_lawful}
use Rattle.agent.proofs.Frames.{after_number, both_spelled, frame_spelled, number_alone}
use Rattle.agent.proofs.Records.{addition_normal, sign_request_normal}

pub request_grammar : IsGrammar request_format.Spells request_format.read
request_grammar = all_end request_lawful.grammar (λ b. refl)

pub constrained_read : IsMapped constrained_body.read (λ a. Ok (AddConstrained a.0 a.1)) (both_at addition_format.read constraints.read)
constrained_read = record { same = λ b. refl }

pub constrained_ends : IsMapped constrained_body.delimited_at (λ a. Ok (AddConstrained a.0 a.1)) (both_at addition_format.delimited_at constraints.delimited_at)
constrained_ends = record { same = λ b. refl }

string_spelled : (make : List ℕ → Request) (bytes : List ℕ) → Fits (string bytes) → (string_body make).Spells (make bytes) (flat (string bytes))
string_spelled make bytes fits = record { inner = bytes; spelled = normal_is_spelling bytes tt fits; makes = refl }

abbrev SpellsBody : RequestKind → Request → List ℕ → Type 0
SpellsBody k = (body k).Spells

message_normal : (r : code.Request) → IsWellFormed r → Fits (request r) → (message kind_from body).Spells (request_of r) (flat (request r))
message_normal variants.RequestIdentities is fits = number_alone kind_from SpellsBody 11 kinds.RequestIdentities Identities refl (refl, refl) fits
message_normal (variants.SignRequest r) is fits = after_number kind_from SpellsBody 13 kinds.SignRequest (Sign (sign_request_of r)) (sign_request (sign_request_of r)) refl (λ f. record { inner = sign_request_of r; spelled = sign_request_normal r tt f; makes = refl }) fits
message_normal (variants.AddIdentity a) is fits = after_number kind_from SpellsBody 17 kinds.AddIdentity (Add (addition_of a)) (addition a) refl (λ f. record { inner = addition_of a; spelled = addition_normal a is f; makes = refl }) fits
message_normal (variants.RemoveIdentity key) is fits = after_number kind_from SpellsBody 18 kinds.RemoveIdentity (Remove key) (string key) refl (string_spelled Remove key) fits
message_normal variants.RemoveAllIdentities is fits = number_alone kind_from SpellsBody 19 kinds.RemoveAllIdentities RemoveAll refl (refl, refl) fits
message_normal (variants.Lock passphrase) is fits = after_number kind_from SpellsBody 22 kinds.Lock (Lock passphrase) (string passphrase) refl (string_spelled Lock passphrase) fits
message_normal (variants.Unlock passphrase) is fits = after_number kind_from SpellsBody 23 kinds.Unlock (Unlock passphrase) (string passphrase) refl (string_spelled Unlock passphrase) fits
message_normal (variants.AddIdentityConstrained a cs) is fits = after_number kind_from SpellsBody 25 kinds.AddIdentityConstrained (AddConstrained (addition_of a) (map constraint_of cs.items)) (addition a & each constraint cs.items) refl (λ f. record {
  inner = (addition_of a, map constraint_of cs.items);
  spelled = both_spelled addition_format addition_lawful (λ b. refl) constraints.Spells (addition_of a) (map constraint_of cs.items) (addition a) (each constraint cs.items) (addition_normal a is.0) (constraints_normal cs.items is.1) f;
  makes = refl;
}) fits

pub request_normal : (r : code.Request) → IsWellFormed r → Fits (box (request r)) → request_format.Spells (request_of r) (flat (box (request r)))
request_normal r is fits = frame_spelled (message kind_from body).Spells (request_of r) (request r) (message_normal r is) fits
