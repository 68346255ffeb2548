-- What an agent answers to a request for a signature.
use Rattle.std.proofs.Common.{◌≡◌, ◌⊎◌, inl, inr, ℕ, List, [], Bool, Some, None, Result, Ok, Err, refl, subst}
use Rattle.std.specs.Prelude.{◌≢◌}
use Rattle.ssh_key.specs.base.Causes.{widened}
use Rattle.ssh_key.specs.keys.Signatures.{signature_of}
use Rattle.ssh_key.specs.model.Keys.{Key, normal_key}
use Rattle.ssh_key.specs.model.Parts.{Parts, box, flat, BoxesFit}
use Rattle.ssh_key.specs.model.Signatures.{Signature}
use Rattle.ssh_key.specs.model.Verification.{Question, IsAccepted}
use Rattle.ssh_key.specs.types.Error.{Error}
use Rattle.ssh_key.specs.types.Error.TheVariants.{Crypto, Memory}
use Rattle.ssh_key.specs.types.Signature as code_signature
use Rattle.ssh_key.specs.types.encoding.Error as encoding
use Rattle.ssh_key.specs.types.encoding.Error.TheVariants.{Length, Memory as NoRoom}
use Rattle.ssh_key.proofs.Grammars.{one_front}
use Rattle.ssh_key.proofs.Writing.{boxes_short}
use Rattle.agent.specs.Requests.{to_sign}
use Rattle.agent.specs.Responses as model
use Rattle.agent.specs.Responses.{given_of, response_format, response_of}
use Rattle.agent.proofs.Responses.{response_grammar}
use Rattle.agent.specs.Signing.{AgentRefuses, Counts, GetsNone, GetsSignature, IsAnswered, IsAskedFor, IsRefusalOf, ReadsAnswer, SpellsAnswer, signing_request}
use Rattle.agent.specs.declared.response.Response as code
use Rattle.agent.specs.declared.response.Response.TheVariants as variants

-- ---- the request

-- one that fits has a key that fits
pub key_short : (key : Key) (flags : ℕ) (message : List ℕ) → BoxesFit (signing_request key flags message) → BoxesFit (normal_key key)
unfolding BoxesFit flat
key_short key flags message fits = boxes_short (normal_key key) fits.1.1.0.0

-- it holds the blob of the key, and the message
pub same_request : (key : Key) (flags : ℕ) (message blob held : List ℕ) → blob ≡ flat (normal_key key) → held ≡ message → box (to_sign (record { key = blob; message = held; flags = flags })) ≡ signing_request key flags message
same_request key flags message blob held is_blob is_message = rw (is_blob, is_message) refl

-- what fits is refused for memory alone
pub not_written : (p : Parts) (e : encoding.Error) (x : Error) → ((BoxesFit p → ⊥) × (e ≡ Length)) ⊎ (BoxesFit p × (e ≡ NoRoom)) → x ≡ widened e → x ≢ Memory → BoxesFit p → ⊥
not_written p e x (inl long) is other fits = long.0 fits
not_written p e x (inr out) is other fits = other (rw (is, out.1) refl)

-- ---- the answer

one_value : {x y : model.Response} {b : List ℕ} → response_format.Spells x b → response_format.Spells y b → x ≡ y
one_value {x} {y} {b} s t = (one_front response_grammar x y b b [] [] s t refl).0

pub some_given : (r : code.Response) (g : code_signature.Signature) (b : List ℕ) → response_format.Spells (response_of r) b → given_of r ≡ Some g → SpellsAnswer (signature_of g) b
some_given variants.Failure g b s is = absurd cc
some_given variants.Success g b s is = absurd cc
some_given (variants.IdentitiesAnswer keys) g b s is = absurd cc
some_given variants.ExtensionFailure g b s is = absurd cc
some_given (variants.ExtensionResponse name contents) g b s is = absurd cc
some_given (variants.SignResponse h) g b s is =
    let same : h ≡ g = cc in
    subst (λ (k : code_signature.Signature). SpellsAnswer (signature_of k) b) same s

pub none_given : (r : code.Response) (b : List ℕ) → response_format.Spells (response_of r) b → given_of r ≡ None → (g : Signature) → SpellsAnswer g b → ⊥
none_given variants.Failure b s is g t = let same = one_value s t in cc
none_given variants.Success b s is g t = let same = one_value s t in cc
none_given (variants.IdentitiesAnswer keys) b s is g t = let same = one_value s t in cc
none_given variants.ExtensionFailure b s is g t = let same = one_value s t in cc
none_given (variants.ExtensionResponse name contents) b s is g t = let same = one_value s t in cc
none_given (variants.SignResponse h) b s is g t = cc

-- ---- why there is none

module _ (answers : List ℕ → Result (List ℕ) Error → Type 0) (request : Parts) where
  -- it failed
  pub agent_failed : (sent : List ℕ) (e : Error) → sent ≡ flat request → answers sent (Err e) → GetsNone answers request (λ _. Unit {0})
  agent_failed sent e is answered = inr (record { handed = Err e; answered = subst (λ (b : List ℕ). answers b (Err e)) is answered; none = λ bytes g same. absurd cc })

  -- it answered these bytes, and reading them decides
  pub answer_read : (sent items bytes : List ℕ) (r : Result code_signature.Signature Error) → sent ≡ flat request → answers sent (Ok items) → bytes ≡ items → ReadsAnswer bytes r → GetsSignature answers request r
  answer_read sent items bytes (Ok g) is answered same h = record { bytes = items; answered = subst (λ (b : List ℕ). answers b (Ok items)) is answered; spelled = subst (λ (b : List ℕ). SpellsAnswer (signature_of g) b) same h }
  answer_read sent items bytes (Err e) is answered same h = λ other. inr (record { handed = Ok items; answered = subst (λ (b : List ℕ). answers b (Ok items)) is answered; none = none other })
    where
      none : e ≢ Memory → (b : List ℕ) (g : Signature) → ◌≡◌ {A = Result (List ℕ) Error} (Ok items) (Ok b) → SpellsAnswer g b → Unit {0} → ⊥
      none other b g at spelled counts =
          let here : b ≡ bytes = cc in
          h other g (subst (λ (x : List ℕ). SpellsAnswer g x) here spelled)

  -- no signature at all is none that counts
  none_counts : (Counts : Signature → Type 0) → GetsNone answers request (λ _. Unit {0}) → GetsNone answers request Counts
  none_counts Counts (inl long) = inl long
  none_counts Counts (inr none) = inr (record { handed = none.handed; answered = none.answered; none = λ bytes g is spelled counts. none.none bytes g is spelled tt })

  -- one that does not count is the only one
  one_refused : (Counts : Signature → Type 0) (g : Signature) → IsAnswered answers request g → (Counts g → ⊥) → GetsNone answers request Counts
  one_refused Counts g given not = inr (record { handed = Ok given.bytes; answered = given.answered; none = none })
    where
      none : (bytes : List ℕ) (h : Signature) → ◌≡◌ {A = Result (List ℕ) Error} (Ok given.bytes) (Ok bytes) → SpellsAnswer h bytes → Counts h → ⊥
      none bytes h is spelled counts =
          let at : given.bytes ≡ bytes = cc in
          let first : SpellsAnswer g bytes = subst (λ (b : List ℕ). SpellsAnswer g b) at given.spelled in
          let same : model.Signed g ≡ model.Signed h = one_value first spelled in
          let is_g : h ≡ g = cc in
          not (subst Counts is_g counts)

module _ (answers : List ℕ → Result (List ℕ) Error → Type 0) (accepts : Question → Bool) (key : Key) (flags : ℕ) (message : List ℕ) where
  abbrev Kept : Signature → Type 0
  Kept = Counts accepts key flags message

  pub refused_none : (e refusal : Error) → (e ≢ Memory → GetsNone answers (signing_request key flags message) (λ _. Unit {0})) → IsRefusalOf e refusal → AgentRefuses answers accepts key flags message refusal
  refused_none e refusal h (inl memory) = inl memory.1
  refused_none e refusal h (inr other) = inr (other.1, none_counts answers (signing_request key flags message) Kept (h other.0))

  pub refused_one : (g : Signature) (e refusal : Error) → IsAnswered answers (signing_request key flags message) g → (e ≢ Memory → IsAccepted accepts key message g → ⊥) → IsRefusalOf e refusal → AgentRefuses answers accepts key flags message refusal
  refused_one g e refusal given h (inl memory) = inl memory.1
  refused_one g e refusal given h (inr other) = inr (other.1, one_refused answers (signing_request key flags message) Kept g given (λ counts. h other.0 counts.1))

  -- one by another hash
  pub other_hash : (g : Signature) → IsAnswered answers (signing_request key flags message) g → (IsAskedFor flags g.algorithm → ⊥) → AgentRefuses answers accepts key flags message Crypto
  other_hash g given not = inr (refl, one_refused answers (signing_request key flags message) Kept g given (λ counts. not counts.0))
