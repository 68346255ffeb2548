-- Worked examples: the parts of a request (RFC 4252, sections 5 to 7; OpenSSH's PROTOCOL, section 3.1),
-- and what follows from each judgement of it.
use Rattle.std.specs.Prelude.{◌≡◌, ℕ, List, [], ◌++◌, replicate, Option, Some, None, Ok, Err, codes}
use Rattle.sshkey_model.specs.HexText.{hex}
use Rattle.sshkey_model.specs.Keys as keys
use Rattle.sshkey_model.specs.Names.{Sha256, Ed25519, Rsa}
use Rattle.sshkey_model.specs.Parts.{flat}
use Rattle.sshkey_model.specs.Reading.{Fault, Length, TrailingData, whole}
use Rattle.sshkey_model.specs.Signatures.{Signature}
use Rattle.sshkey_model.specs.Verification.{Question, question}
use Rattle.sshkey_userauth.specs.Examples.{after, point, touch}
use Rattle.sshkey_userauth.specs.Judgements.{HasNoKey, IsAsked, LacksKey, ReadsKey, form_among, named_form, named_with_flags, request_names, with_flags}
use Rattle.sshkey_userauth.specs.RequestFormats.{credential_format}
use Rattle.sshkey_userauth.specs.Requests.{Hostbound, Publickey, UserauthRequest, has_signature, message_number, method_name, method_of, userauth_request}
use Rattle.sshkey_userauth.specs.Values as values
use Rattle.sshkey_userauth.specs.declared.judgement.name.KeyForm.TheVariants.{Plain, Certified}
use Rattle.sshkey_userauth.specs.declared.refusal.UserauthRefusal.TheVariants as refusals
use Rattle.sshkey_userauth.specs.declared.request.part.Method.TheVariants as methods

-- SSH_MSG_USERAUTH_REQUEST, TRUE, and the names of the methods; one has a host key, an empty one too
abbrev pub RequestParts : Type 0
RequestParts = (message_number ≡ hex "32") × (has_signature ≡ hex "01")
    × (method_name Publickey ≡ hex "7075626c69636b6579") × (method_name Hostbound ≡ hex "7075626c69636b65792d686f7374626f756e642d763030406f70656e7373682e636f6d")
    × (method_of None ≡ Publickey) × (method_of (Some []) ≡ Hostbound)
    × (values.method_of methods.Publickey ≡ Publickey) × (values.method_of methods.Hostbound ≡ Hostbound)

-- A host key follows where the method has one, and nowhere else.
abbrev pub Credentials : Type 0
Credentials = (whole (credential_format Publickey).read after ≡ Ok (record { algorithm = codes "a"; public_key = hex "01"; host_key = None }))
    × (whole (credential_format Hostbound).read (after ++ hex "00000001 02") ≡ Ok (record { algorithm = codes "a"; public_key = hex "01"; host_key = Some (hex "02") }))
    × (whole (credential_format Publickey).read (after ++ hex "00000001 02") ≡ Err (TrailingData 5))
    × (whole (credential_format Hostbound).read after ≡ Err Length)

-- The first of an algorithm's names is that of a key, and the second that of a certificate.
abbrev pub NameForms : Type 0
NameForms = (form_among (request_names (Rsa (Some Sha256))) (codes "rsa-sha2-256") ≡ Some Plain)
    × (form_among (request_names (Rsa (Some Sha256))) (codes "rsa-sha2-256-cert-v01@openssh.com") ≡ Some Certified)
    × (form_among (request_names (Rsa (Some Sha256))) (codes "ssh-rsa") ≡ None) × (form_among None (codes "ssh-rsa") ≡ None)
    × (named_form None ≡ Err refusals.Algorithm) × (named_form (Some Plain) ≡ Ok Plain) × (named_form (Some Certified) ≡ Ok Certified)

-- A name is told before flags, and flags leave what the name said.
abbrev pub Order : Type 0
Order = (named_with_flags (Err refusals.Algorithm) (Err refusals.Touch) ≡ Err refusals.Algorithm) × (named_with_flags (Err refusals.Algorithm) (Ok tt) ≡ Err refusals.Algorithm)
    × (named_with_flags (Ok Plain) (Err refusals.Touch) ≡ Err refusals.Touch) × (named_with_flags (Ok Certified) (Ok tt) ≡ Ok Certified)
    × (with_flags (Err refusals.Verification) Plain ≡ Err refusals.Verification) × (with_flags (Ok tt) Plain ≡ Ok Plain) × (with_flags (Ok tt) Certified ≡ Ok Certified)

-- ---- a request, and its signature

abbrev pub of_key : List ℕ → List ℕ → List ℕ → UserauthRequest
of_key service algorithm key = record { session_id = hex "aabb"; user = codes "u"; service = service; algorithm = algorithm; public_key = key; host_key = None }

abbrev pub key_of_point : List ℕ
key_of_point = hex "0000000b 7373682d65643235353139 00000020" ++ point

abbrev pub signature : Signature
signature = record { algorithm = Ed25519; blob = replicate 64 0x03 }

abbrev pub asking : UserauthRequest
asking = of_key (codes "ssh-connection") (codes "ssh-ed25519") key_of_point

-- A verifier is asked about the key in the request and the bytes of the request; about none where the
-- service or the name is another's, or no key is there.
abbrev pub Asked : Type 0
Asked = IsAsked asking touch signature (question (keys.Ed25519 point) (flat (userauth_request asking)) signature)
    × ((q : Option Question) → IsAsked (of_key (codes "ssh-userauth") (codes "ssh-ed25519") key_of_point) touch signature q → ⊥)
    × ((q : Option Question) → IsAsked (of_key (codes "ssh-connection") (codes "rsa-sha2-256") key_of_point) touch signature q → ⊥)
    × ((q : Option Question) → IsAsked (of_key (codes "ssh-connection") (codes "ssh-ed25519") []) touch signature q → ⊥)

-- Without a key the fault of its bytes is told, once the request is judged well; and memory may be
-- refused only for a key that is there.
abbrev pub Keyless : Type 0
Keyless = LacksKey (of_key (codes "ssh-connection") (codes "ssh-ed25519") []) touch signature Length
    × ((f : Fault) → LacksKey (of_key (codes "ssh-userauth") (codes "ssh-ed25519") []) touch signature f → ⊥)
    × ((f : Fault) → LacksKey asking touch signature f → ⊥)
    × HasNoKey asking touch signature refusals.Memory
    × ¬ HasNoKey (of_key (codes "ssh-connection") (codes "ssh-ed25519") []) touch signature refusals.Memory
    × ¬ HasNoKey asking touch signature refusals.Service
    × ReadsKey Plain key_of_point (Err refusals.Memory) × ¬ ReadsKey Plain [] (Err refusals.Memory) × ¬ ReadsKey Plain [] (Err refusals.Touch)
