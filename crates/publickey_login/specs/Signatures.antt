-- Whether the client has signed for the key that it offers (RFC 4252, section 7; PROTOCOL.u2f;
-- sshd_config(5), PubkeyAuthOptions).
use Rattle.std.specs.Prelude.{◌≡◌, ℕ, List, false, Option, Some, None, Ok, ◌≢◌, ◌⊎◌, Err}
use Rattle.sshkey_model.specs.Keys.{Key, SkEcdsa, SkEd25519}
use Rattle.sshkey_model.specs.Parts.{BoxesFit, flat}
use Rattle.sshkey_model.specs.Signatures.{Signature, SpellsSignature}
use Rattle.sshkey_model.specs.Verification.{Question, question}
use Rattle.sshkey_userauth.specs.Judgements.{connection, form_under, judged, lacking}
use Rattle.sshkey_userauth.specs.Requests.{UserauthRequest, userauth_request}
use Rattle.sshkey_userauth.specs.declared.judgement.Requirements.{Requirements}
use Rattle.sshkey_userauth.specs.declared.judgement.name.KeyForm.{KeyForm}
use Rattle.sshkey_base.specs.Reading.{NoSpelling}
use Rattle.sshkey_base.specs.declared.error.Error.{Error}
use Rattle.sshkey_base.specs.declared.error.Error.TheVariants as error
use Rattle.sshkey_userauth.specs.declared.refusal.UserauthRefusal.{UserauthRefusal}
use Rattle.publickey_login.specs.declared.refusal.PublickeyRefusal.{PublickeyRefusal}
use Rattle.publickey_login.specs.declared.refusal.PublickeyRefusal.TheVariants as refusal

-- What a client offers: the name of the user, that of the algorithm, if it is told, and the blob of a
-- key or of a certificate.
pub record Offer : Type 0 where
  pub user : List ℕ
  pub algorithm : Option (List ℕ)
  pub blob : List ℕ

-- Who has seen its signature: nobody, so that it is asked about here, for that session, and for that
-- host where the method says so; or its transport, which tells the flags or not; or sshd.
pub data Signed : Type 0 where
  Request : (session_id : List ℕ) → (host_key : Option (List ℕ)) → (signature : List ℕ) → Signed
  ByTransport : (flags : Option ℕ) → Signed
  BySshd : Signed

-- ---- the signature of a request

-- what the client signs: what it offers under that name, for the session and the host
abbrev pub request_for : Offer → List ℕ → List ℕ → Option (List ℕ) → UserauthRequest
request_for o name session_id host_key = record { session_id = session_id; user = o.user; service = connection; algorithm = name; public_key = o.blob; host_key = host_key }

-- The bytes are a signature of a request that can be sent, by the algorithm that it names, which is
-- the name of a key or of a certificate, as what is offered is one. Its flags are what is required.
-- It is asked about under the key, over the bytes of the request.
pub record IsAskedOfRequest (r : UserauthRequest) (required : Requirements) (key : Key) (form : KeyForm) (bytes : List ℕ) (asked : Option Question) : Type 0 where
  pub sent : BoxesFit (userauth_request r)
  pub signature : Signature
  pub spelled : SpellsSignature signature bytes
  pub judged : judged r required signature ≡ Ok form
  pub about : asked ≡ question key (flat (userauth_request r)) signature

-- ---- a signature that somebody else has verified

-- The name, if one is told, is that of such a key in that form.
abbrev pub IsNamed : Option (List ℕ) → Key → KeyForm → Type 0
IsNamed None key form = Unit {0}
IsNamed (Some name) key form = form_under name key ≡ Some form

-- The flags are what is required; and where none are told, nothing is.
abbrev pub AreFlags : Requirements → Option ℕ → Type 0
AreFlags required (Some flags) = lacking required (Some flags) ≡ Ok tt
AreFlags required None = (required.touch_required ≡ false) × (required.verify_required ≡ false)

-- Security keys alone have flags.
abbrev pub HasFlags : Key → Requirements → Option ℕ → Type 0
HasFlags (SkEcdsa k) required flags = AreFlags required flags
HasFlags (SkEd25519 k) required flags = AreFlags required flags
HasFlags _ required flags = Unit {0}

-- ---- what is left to ask

-- The question of the request, which names the algorithm; or nothing, where the transport has
-- verified the signature, or where sshd does, and looks at the flags itself.
abbrev pub IsLeft : Offer → Signed → Requirements → Key → KeyForm → Option (Option Question) → Type 0
IsLeft o (Request session_id host_key bytes) required key form (Some asked) = (name : List ℕ) × (o.algorithm ≡ Some name) × IsAskedOfRequest (request_for o name session_id host_key) required key form bytes asked
IsLeft o (Request session_id host_key bytes) required key form None = ⊥
IsLeft o (ByTransport flags) required key form (Some asked) = ⊥
IsLeft o (ByTransport flags) required key form None = IsNamed o.algorithm key form × HasFlags key required flags
IsLeft o BySshd required key form (Some asked) = ⊥
IsLeft o BySshd required key form None = IsNamed o.algorithm key form

-- Why a client has not signed, and where memory is needed.

-- Memory ran out, or it is that refusal.
abbrev pub IsRefusalFor : PublickeyRefusal → Error → PublickeyRefusal → Type 0
IsRefusalFor other e r = ((e ≡ error.Memory) × (r ≡ refusal.Memory)) ⊎ ((e ≢ error.Memory) × (r ≡ other))

-- The request is too long to be sent; or the bytes are no signature; or they are one, and the name or
-- the flags are wrong; or the name is of the other form.
abbrev pub IsWhyUnasked : UserauthRequest → Requirements → KeyForm → List ℕ → PublickeyRefusal → Type 0
IsWhyUnasked r required form bytes refusal.TooLong = ¬ BoxesFit (userauth_request r)
IsWhyUnasked r required form bytes (refusal.NoSignature e) = (e ≢ error.Memory) × NoSpelling SpellsSignature bytes
IsWhyUnasked r required form bytes (refusal.Signature e) = (g : Signature) × SpellsSignature g bytes × (judged r required g ≡ Err e)
IsWhyUnasked r required form bytes refusal.Algorithm = (g : Signature) × SpellsSignature g bytes × ((other : KeyForm) × (judged r required g ≡ Ok other) × (other ≢ form))
IsWhyUnasked r required form bytes refusal.Memory = Unit {0}
IsWhyUnasked r required form bytes _ = ⊥

-- The flags lack what is required; or none are told, and something is.
abbrev pub IsWhyNoFlags : Requirements → Option ℕ → PublickeyRefusal → Type 0
IsWhyNoFlags required (Some flags) r = (e : UserauthRefusal) × (lacking required (Some flags) ≡ Err e) × (r ≡ refusal.Signature e)
IsWhyNoFlags required None r = ¬ AreFlags required None × (r ≡ refusal.NoFlags)

abbrev pub IsWhyFlagsOf : Key → Requirements → Option ℕ → PublickeyRefusal → Type 0
IsWhyFlagsOf (SkEcdsa k) required flags r = IsWhyNoFlags required flags r
IsWhyFlagsOf (SkEd25519 k) required flags r = IsWhyNoFlags required flags r
IsWhyFlagsOf _ required flags r = ⊥

-- The name that is told is none of the key's in that form.
abbrev pub IsWhyUnnamed : Option (List ℕ) → Key → KeyForm → PublickeyRefusal → Type 0
IsWhyUnnamed name key form r = ¬ IsNamed name key form × (r ≡ refusal.Algorithm)

-- Why nothing is left to ask, and the client has not signed: what is wrong first.
abbrev pub IsWhyUnsigned : Offer → Signed → Requirements → Key → KeyForm → PublickeyRefusal → Type 0
IsWhyUnsigned o (Request session_id host_key bytes) required key form r = ((o.algorithm ≡ None) × (r ≡ refusal.Algorithm))
    ⊎ ((name : List ℕ) × (o.algorithm ≡ Some name) × IsWhyUnasked (request_for o name session_id host_key) required form bytes r)
IsWhyUnsigned o (ByTransport flags) required key form r = IsWhyUnnamed o.algorithm key form r ⊎ (IsNamed o.algorithm key form × IsWhyFlagsOf key required flags r)
IsWhyUnsigned o BySshd required key form r = IsWhyUnnamed o.algorithm key form r

-- Memory is needed for the bytes of a request, and for its signature.
abbrev pub NeedsMemory : Signed → Type 0
NeedsMemory (Request session_id host_key bytes) = Unit {0}
NeedsMemory (ByTransport flags) = ⊥
NeedsMemory BySshd = ⊥
