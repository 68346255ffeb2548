-- What an agent is asked for a signature, and what it answers (draft-miller-ssh-agent, section
-- 4.5).
use Rattle.std.specs.Prelude.{◌≡◌, ◌≢◌, ◌⊎◌, ℕ, List, Vec, Bool, Some, Result, Ok, Err}
use Rattle.ssh_key.specs.keys.Signatures.{signature_of}
use Rattle.ssh_key.specs.model.Keys.{Key, normal_key}
use Rattle.ssh_key.specs.model.Names.{Algorithm, Rsa, Sha256, Sha512}
use Rattle.ssh_key.specs.model.Parts.{Parts, box, flat, BoxesFit}
use Rattle.ssh_key.specs.model.Signatures.{Signature}
use Rattle.ssh_key.specs.model.Verification.{Question, IsAccepted}
use Rattle.ssh_key.specs.types.Error.{Error}
use Rattle.ssh_key.specs.types.Error.TheVariants.{Crypto, Memory}
use Rattle.ssh_key.specs.types.Signature as code
use Rattle.agent.specs.Requests.{to_sign}
use Rattle.agent.specs.Responses.{Signed, response_format}

-- the request, in its frame; the key stands in it by its blob
abbrev pub signing_request : Key → ℕ → List ℕ → Parts
signing_request key flags message = box (to_sign (record { key = flat (normal_key key); message = message; flags = flags }))

-- what a call handed back
abbrev pub handed : {Z : Type 0} → Result (Vec ℕ Z) Error → Result (List ℕ) Error
handed (Ok bytes) = Ok bytes.items
handed (Err e) = Err e

-- The bytes are the answer that is this signature.
abbrev pub SpellsAnswer : Signature → List ℕ → Type 0
SpellsAnswer g = response_format.Spells (Signed g)

-- A signature where the bytes are an answer that is one; memory aside, an error only where they are
-- none.
abbrev pub ReadsAnswer : List ℕ → Result code.Signature Error → Type 0
ReadsAnswer bytes (Ok g) = SpellsAnswer (signature_of g) bytes
ReadsAnswer bytes (Err e) = e ≢ Memory → (g : Signature) → SpellsAnswer g bytes → ⊥

-- What an agent may answer is given, and the request that it is asked.
module _ (answers : List ℕ → Result (List ℕ) Error → Type 0) (request : Parts) where
  -- It was asked, and answered this signature.
  pub record IsAnswered (g : Signature) : Type 0 where
    pub bytes : List ℕ
    pub answered : answers (flat request) (Ok bytes)
    pub spelled : SpellsAnswer g bytes

  -- It was asked, and answered no signature that counts.
  pub record IsUnanswered (Counts : Signature → Type 0) : Type 0 where
    pub handed : Result (List ℕ) Error
    pub answered : answers (flat request) handed
    pub none : (bytes : List ℕ) (g : Signature) → handed ≡ Ok bytes → SpellsAnswer g bytes → Counts g → ⊥

  -- There is none: a string of the request is too long for it to be written, or the agent answered
  -- none.
  abbrev pub GetsNone : (Signature → Type 0) → Type 0
  GetsNone Counts = (BoxesFit request → ⊥) ⊎ IsUnanswered Counts

  -- Memory aside, an error only where there is no signature at all.
  abbrev pub GetsSignature : Result code.Signature Error → Type 0
  GetsSignature (Ok g) = IsAnswered (signature_of g)
  GetsSignature (Err e) = e ≢ Memory → GetsNone (λ _. Unit {0})

-- With flags of 2 no signature by RSA is one of SHA-512, and with flags of 4 none of SHA-256
-- (section 4.5.1).
abbrev pub IsAskedFor : ℕ → Algorithm → Type 0
IsAskedFor flags a = (flags ≡ 2 → a ≢ Rsa (Some Sha512)) × (flags ≡ 4 → a ≢ Rsa (Some Sha256))

-- The signature counts: it is by the hash that was asked for, and accepted.
abbrev pub Counts : (Question → Bool) → Key → ℕ → List ℕ → Signature → Type 0
Counts accepts key flags message g = IsAskedFor flags g.algorithm × IsAccepted accepts key message g

-- For which messages a key in an agent refuses to sign, and with which error: the agent has no
-- signature that counts.
abbrev pub AgentRefuses : (List ℕ → Result (List ℕ) Error → Type 0) → (Question → Bool) → Key → ℕ → List ℕ → Error → Type 0
AgentRefuses answers accepts key flags message e = (e ≡ Memory) ⊎ ((e ≡ Crypto) × GetsNone answers (signing_request key flags message) (Counts accepts key flags message))

-- `Memory` stays, and any other error is `Crypto`.
abbrev pub IsRefusalOf : Error → Error → Type 0
IsRefusalOf e refusal = ((e ≡ Memory) × (refusal ≡ Memory)) ⊎ ((e ≢ Memory) × (refusal ≡ Crypto))
