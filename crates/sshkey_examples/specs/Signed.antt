-- What a verifier of signatures learns.
use Rattle.std.specs.Prelude.{◌≡◌, ◌≢◌, ◌⊎◌, ℕ, List, Bool, true, false, IsErrAnd, Result, Ok, Err}
use Rattle.ssh_key.specs.base.Judgements.{SpellsSome}
use Rattle.ssh_key.specs.base.Causes.{Faulty, cause}
use Rattle.ssh_key.specs.types.Error.{Error}
use Rattle.ssh_key.specs.types.Error.TheVariants.{Memory}
use Rattle.ssh_key.specs.model.Keys.{Key}
use Rattle.ssh_key.specs.model.Reading.{whole}
use Rattle.ssh_key.specs.model.Signatures.{Signature, signature_at, signature_format, SpellsSignature}
use Rattle.ssh_key.specs.model.Verification.{Question, IsAccepted}

-- The blob spells a signature of the message that is accepted under the key.
pub record SpellsAcceptedSignature (accepts : Question → Bool) (key : Key) (message blob : List ℕ) : Type 0 where
  pub signature : Signature
  pub spelled : SpellsSignature signature blob
  pub accepted : IsAccepted accepts key message signature

-- Out of memory aside, the error is the first fault of the blob, from the left.
abbrev pub HasFault : List ℕ → Error → Type 0
HasFault blob e = e ≢ Memory → IsErrAnd (whole signature_at blob) (λ fault. cause e ≡ Faulty fault)

-- What stands in the blob up to its fault needs memory, or it spells a signature, which is verified
-- then.
abbrev pub NeedsMemory : List ℕ → Type 0
NeedsMemory blob = signature_format.needs blob 0 ⊎ SpellsSome SpellsSignature blob

-- A verdict is a yes, and a refusal a no, unless memory was refused.
abbrev pub AnswersYesOrNo : Result (Unit {0}) Error → Result Bool Error → Type 0
AnswersYesOrNo (Ok _) answer = answer ≡ Ok true
AnswersYesOrNo (Err e) answer = ((e ≡ Memory) × (answer ≡ Err e)) ⊎ ((e ≢ Memory) × (answer ≡ Ok false))
