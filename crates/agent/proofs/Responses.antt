-- How responses are read, and that what is written of them is a spelling.
use Rattle.std.proofs.Common.{◌≡◌, ◌<◌, ◌+◌, ℕ, List, [], ◌∷◌, length, map, map-id, Ok, refl, subst, arith}
use Rattle.std.specs.List.{AllByRecursion}
use Rattle.ssh_key.proofs.Counted.{counted_normal, each_normal}
use Rattle.ssh_key.proofs.Grammars.{all_end, both_at}
use Rattle.ssh_key.proofs.Lawful.{IsMapped, string_lawful}
use Rattle.ssh_key.proofs.Writing.{length_both, length_box}
use Rattle.ssh_key.specs.model.Leaves.{string_format}
use Rattle.ssh_key.specs.keys.Signatures.{signature_of}
use Rattle.ssh_key.specs.model.Grammar.{IsGrammar, normal_is_spelling}
use Rattle.ssh_key.specs.model.Parts.{box, bytes, each, flat, Fits, ◌&◌}
use Rattle.ssh_key.specs.model.Signatures.{signature, SpellsSignature}
use Rattle.ssh_key.specs.model.Texts.{string}
use Rattle.ssh_key.specs.model.Counted.{counted_format}
use Rattle.agent.specs.Records.{message, identity, identity_format, identity_of}
use Rattle.agent.specs.Responses.{Extension, ExtensionFailure, Failure, Identities, IsWellFormed, Response, Signed, Success, answer, body, extension_body, kind_from, response, response_format, response_of, signed, strings}
use Rattle.agent.specs.declared.identity.Identity as code_identity
use Rattle.agent.specs.declared.response.Response as code
use Rattle.agent.specs.declared.response.Response.TheVariants as variants
use Rattle.agent.specs.declared.response.kind.ResponseKind.{ResponseKind}
use Rattle.agent.specs.declared.response.kind.ResponseKind.TheVariants as kinds
use Rattle.agent.proofs.Lawful.{identity_lawful, response_lawful}
use Rattle.agent.proofs.Frames.{after_number, both_spelled, frame_spelled, number_alone}
use Rattle.agent.proofs.Records.{identity_normal}

pub response_grammar : IsGrammar response_format.Spells response_format.read
response_grammar = all_end response_lawful.grammar (λ b. refl)

pub extension_read : IsMapped extension_body.read (λ e. Ok (Extension e.0 e.1)) (both_at string_format.read strings.read)
extension_read = record { same = λ b. refl }

pub extension_ends : IsMapped extension_body.delimited_at (λ e. Ok (Extension e.0 e.1)) (both_at string_format.delimited_at strings.delimited_at)
extension_ends = record { same = λ b. refl }

-- a key has bytes
shows : (i : code_identity.Identity) → 0 < length (flat (identity (identity_of i)))
shows i =
    let all : length (flat (identity (identity_of i))) ≡ length (flat (string i.key)) + length (flat (string i.comment)) = length_both (string i.key) (string i.comment) in
    let first : length (flat (string i.key)) ≡ 4 + length (flat (bytes i.key)) = length_box (bytes i.key) in
    omega (arith, all, first)

all_alike : (keys : List code_identity.Identity) → AllByRecursion (λ _. Unit {0}) keys
all_alike [] = tt
all_alike (i ∷ keys) = (tt, all_alike keys)

answer_normal : (keys : List code_identity.Identity) → Fits (answer keys) → (counted_format identity_format).Spells (map identity_of keys) (flat (answer keys))
answer_normal keys fits = counted_normal identity_of (λ i. identity (identity_of i)) (λ _. Unit {0}) identity_format identity_lawful (λ b. refl) identity_normal shows keys (all_alike keys) fits

all_strings : (ss : List (List ℕ)) → AllByRecursion (λ _. Unit {0}) ss
all_strings [] = tt
all_strings (s ∷ ss) = (tt, all_strings ss)

strings_normal : (ss : List (List ℕ)) → Fits (each string ss) → strings.Spells ss (flat (each string ss))
strings_normal ss fits = subst (λ (xs : List (List ℕ)). strings.Spells xs (flat (each string ss))) (map-id ss) (each_normal (λ s. s) string (λ _. Unit {0}) string_format string_lawful (λ b. refl) (λ s is f. normal_is_spelling s tt f) ss (all_strings ss) fits)

extension_normal : (name : List ℕ) (contents : List (List ℕ)) → Fits (string name & each string contents) → extension_body.Spells (Extension name contents) (flat (string name & each string contents))
extension_normal name contents fits = record {
  inner = (name, contents);
  spelled = both_spelled string_format string_lawful (λ b. refl) strings.Spells name contents (string name) (each string contents) (normal_is_spelling name tt) (strings_normal contents) fits;
  makes = refl;
}

abbrev SpellsBody : ResponseKind → Response → List ℕ → Type 0
SpellsBody k = (body k).Spells

message_normal : (r : code.Response) → IsWellFormed r → Fits (response r) → (message kind_from body).Spells (response_of r) (flat (response r))
message_normal variants.Failure is fits = number_alone kind_from SpellsBody 5 kinds.Failure Failure refl (refl, refl) fits
message_normal variants.Success is fits = number_alone kind_from SpellsBody 6 kinds.Success Success refl (refl, refl) fits
message_normal (variants.IdentitiesAnswer keys) is fits = after_number kind_from SpellsBody 12 kinds.IdentitiesAnswer (Identities (map identity_of keys.items)) (answer keys.items) refl (λ f. record { inner = map identity_of keys.items; spelled = answer_normal keys.items f; makes = refl }) fits
message_normal (variants.SignResponse g) is fits = after_number kind_from SpellsBody 14 kinds.SignResponse (Signed (signature_of g)) (signed g) refl (λ f. record { inner = signature_of g; spelled = frame_spelled SpellsSignature (signature_of g) (signature (signature_of g)) (normal_is_spelling (signature_of g) is) f; makes = refl }) fits
message_normal variants.ExtensionFailure is fits = number_alone kind_from SpellsBody 28 kinds.ExtensionFailure ExtensionFailure refl (refl, refl) fits
message_normal (variants.ExtensionResponse name contents) is fits = after_number kind_from SpellsBody 29 kinds.ExtensionResponse (Extension name contents.items) (string name & each string contents.items) refl (extension_normal name contents.items) fits

pub response_normal : (r : code.Response) → IsWellFormed r → Fits (box (response r)) → response_format.Spells (response_of r) (flat (box (response r)))
response_normal r is fits = frame_spelled (message kind_from body).Spells (response_of r) (response r) (message_normal r is) fits
