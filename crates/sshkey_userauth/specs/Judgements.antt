-- What is asked about a client's signature, and what is wrong with it first.
use Rattle.std.specs.Prelude.{◌≡◌, ◌⊎◌, ℕ, List, [], ◌∷◌, Bool, ◌&&◌, ◌==◌, Option, Some, None, Result, Ok, Err, IsErrAnd, codes, bytes_eq, bit_and, if◌then◌else◌}
use Rattle.std.specs.Result.{IsOk}
use Rattle.sshkey_base.specs.Causes.{Faulty, cause}
use Rattle.sshkey_model.specs.Certificates.{certificate_at}
use Rattle.sshkey_model.specs.Keys as keys
use Rattle.sshkey_model.specs.Keys.{Key, key_data_at}
use Rattle.sshkey_model.specs.Names.{Nistp256, Nistp384, Nistp521, Sha256, Sha512, Algorithm, Dsa, Ecdsa, Ed25519, Rsa, SkEcdsa, SkEd25519, Other}
use Rattle.sshkey_model.specs.Parts.{flat}
use Rattle.sshkey_model.specs.Reading.{Fault, ◌>>=◌, whole}
use Rattle.sshkey_model.specs.Signatures.{Signature, has_trailer, trailer}
use Rattle.sshkey_model.specs.Verification.{Question, question}
use Rattle.sshkey_keys.specs.Keys.{key_of}
use Rattle.sshkey_keys.specs.declared.key_data.KeyData.{KeyData}
use Rattle.sshkey_userauth.specs.Requests.{UserauthRequest, userauth_request}
use Rattle.sshkey_userauth.specs.declared.judgement.Requirements.{Requirements}
use Rattle.sshkey_userauth.specs.declared.judgement.name.KeyForm.{KeyForm}
use Rattle.sshkey_userauth.specs.declared.judgement.name.KeyForm.TheVariants.{Plain, Certified}
use Rattle.sshkey_userauth.specs.declared.refusal.UserauthRefusal.{UserauthRefusal}
use Rattle.sshkey_userauth.specs.declared.refusal.UserauthRefusal.TheVariants as refusals

-- ---- the names of algorithms

-- A request's name for a key whose signature is by the algorithm, and for a certificate (RFC 5656,
-- section 6.2; RFC 8332, section 3; RFC 8709, section 8; PROTOCOL.certkeys; PROTOCOL.u2f). None for
-- what signs by SHA-1, and under a private-use name.
abbrev pub request_names : Algorithm → Option (List ℕ × List ℕ)
request_names Dsa = None
request_names (Ecdsa Nistp256) = Some (codes "ecdsa-sha2-nistp256", codes "ecdsa-sha2-nistp256-cert-v01@openssh.com")
request_names (Ecdsa Nistp384) = Some (codes "ecdsa-sha2-nistp384", codes "ecdsa-sha2-nistp384-cert-v01@openssh.com")
request_names (Ecdsa Nistp521) = Some (codes "ecdsa-sha2-nistp521", codes "ecdsa-sha2-nistp521-cert-v01@openssh.com")
request_names Ed25519 = Some (codes "ssh-ed25519", codes "ssh-ed25519-cert-v01@openssh.com")
request_names (Rsa None) = None
request_names (Rsa (Some Sha256)) = Some (codes "rsa-sha2-256", codes "rsa-sha2-256-cert-v01@openssh.com")
request_names (Rsa (Some Sha512)) = Some (codes "rsa-sha2-512", codes "rsa-sha2-512-cert-v01@openssh.com")
request_names SkEcdsa = Some (codes "sk-ecdsa-sha2-nistp256@openssh.com", codes "sk-ecdsa-sha2-nistp256-cert-v01@openssh.com")
request_names SkEd25519 = Some (codes "sk-ssh-ed25519@openssh.com", codes "sk-ssh-ed25519-cert-v01@openssh.com")
request_names (Other name) = None

abbrev pub form_among : Option (List ℕ × List ℕ) → List ℕ → Option KeyForm
form_among None name = None
form_among (Some names) name =
    if bytes_eq name names.0 then Some Plain
    else if bytes_eq name names.1 then Some Certified
    else None

-- how the key stands in a request with that name, if the signature is by that algorithm
abbrev pub form_of : List ℕ → Algorithm → Option KeyForm
form_of name a = form_among (request_names a) name

abbrev pub first_form : Option KeyForm → Option KeyForm → Option KeyForm
first_form None other = other
first_form (Some form) other = Some form

abbrev pub form_under_rsa : List ℕ → Option KeyForm
form_under_rsa name = first_form (form_of name (Rsa (Some Sha512))) (form_of name (Rsa (Some Sha256)))

-- how such a key stands in a request with that name, whichever of its algorithms the signature is by
abbrev pub form_under : List ℕ → Key → Option KeyForm
form_under name (keys.Dsa k) = None
form_under name (keys.Ecdsa c point) = form_of name (Ecdsa c)
form_under name (keys.Ed25519 k) = form_of name Ed25519
form_under name (keys.Rsa k) = form_under_rsa name
form_under name (keys.SkEcdsa k) = form_of name SkEcdsa
form_under name (keys.SkEd25519 k) = form_of name SkEd25519
form_under name (keys.Opaque own k) = None

-- ---- the flags of a security key (PROTOCOL.u2f)

abbrev pub first_of : List ℕ → Option ℕ
first_of [] = None
first_of (x ∷ rest) = Some x

-- one byte, before the counter; the signatures of other keys have none
abbrev pub flags_of : Signature → Option ℕ
flags_of g = if has_trailer g.algorithm then first_of (trailer g.blob) else None

-- somebody touched it: SSH_SK_USER_PRESENCE_REQD
abbrev pub lacks_touch : ℕ → Bool
lacks_touch flags = bit_and flags 0x01 == 0

-- it verified its user, by a PIN or a finger: SSH_SK_USER_VERIFICATION_REQD
abbrev pub lacks_verification : ℕ → Bool
lacks_verification flags = bit_and flags 0x04 == 0

-- what the flags lack of what is required
abbrev pub lacking : Requirements → Option ℕ → Result (Unit {0}) UserauthRefusal
lacking required None = Ok tt
lacking required (Some flags) =
    if required.touch_required && lacks_touch flags then Err refusals.Touch
    else if required.verify_required && lacks_verification flags then Err refusals.Verification
    else Ok tt

-- ---- the verdict, but for the key

abbrev pub connection : List ℕ
connection = codes "ssh-connection"

abbrev pub named_form : Option KeyForm → Result KeyForm UserauthRefusal
named_form None = Err refusals.Algorithm
named_form (Some form) = Ok form

abbrev pub with_flags : Result (Unit {0}) UserauthRefusal → KeyForm → Result KeyForm UserauthRefusal
with_flags (Ok x) form = Ok form
with_flags (Err e) form = Err e

abbrev pub named_with_flags : Result KeyForm UserauthRefusal → Result (Unit {0}) UserauthRefusal → Result KeyForm UserauthRefusal
named_with_flags (Err e) flags = Err e
named_with_flags (Ok form) flags = with_flags flags form

-- how the key stands in the request, or what is wrong first: the service, the algorithm's name, the
-- flags
abbrev pub judged : UserauthRequest → Requirements → Signature → Result KeyForm UserauthRefusal
judged r required g =
    if bytes_eq r.service connection
    then named_with_flags (named_form (form_of r.algorithm g.algorithm)) (lacking required (flags_of g))
    else Err refusals.Service

-- ---- the key

-- the key itself, or the one that the certificate is about
abbrev pub key_from : KeyForm → List ℕ → Result Key Fault
key_from Plain b = whole key_data_at b
key_from Certified b = whole certificate_at b >>= λ c. Ok c.0.signed.key

-- The key in the bytes, or why there is none, or that there is no memory for one that is there.
abbrev pub ReadsKey : KeyForm → List ℕ → Result KeyData UserauthRefusal → Type 0
ReadsKey form b (Ok key) = key_from form b ≡ Ok (key_of key)
ReadsKey form b (Err (refusals.Key e)) = IsErrAnd (key_from form b) (λ fault. cause e ≡ Faulty fault)
ReadsKey form b (Err refusals.Memory) = IsOk (key_from form b)
ReadsKey form b (Err e) = ⊥

-- ---- the question

-- The service is `ssh-connection`, the name is that of the signature's algorithm, the flags are
-- what is required, and it is asked about the key in the request and the bytes of the request.
pub record IsAsked (r : UserauthRequest) (required : Requirements) (g : Signature) (q : Option Question) : Type 0 where
  pub form : KeyForm
  pub judged : judged r required g ≡ Ok form
  pub key : Key
  pub held : key_from form r.public_key ≡ Ok key
  pub question : q ≡ question key (flat (userauth_request r)) g

-- The request is judged well, and its key is not read for that reason.
pub record HasNoKey (r : UserauthRequest) (required : Requirements) (g : Signature) (e : UserauthRefusal) : Type 0 where
  pub form : KeyForm
  pub judged : judged r required g ≡ Ok form
  pub none : ReadsKey form r.public_key (Err e)

-- The request is judged well, and there is no key in it, for that fault.
pub record LacksKey (r : UserauthRequest) (required : Requirements) (g : Signature) (fault : Fault) : Type 0 where
  pub form : KeyForm
  pub judged : judged r required g ≡ Ok form
  pub none : key_from form r.public_key ≡ Err fault

abbrev pub IsRefused : UserauthRequest → Requirements → Signature → UserauthRefusal → Type 0
IsRefused r required g e = (judged r required g ≡ Err e) ⊎ HasNoKey r required g e
