-- What a verifier is asked.
use Rattle.std.specs.Prelude.{◌≡◌, ℕ, List, Option, Some, None, Result, Ok, Err}
use Rattle.sshkey_base.specs.declared.error.Error.{Error}
use Rattle.sshkey_base.specs.declared.error.Error.TheVariants.{Memory}
use Rattle.sshkey_model.specs.Keys.{Key}
use Rattle.sshkey_model.specs.Signatures.{Signature, IsSignatureBlob}
use Rattle.sshkey_model.specs.Verification.{Question, question}

-- It is the question about some message and some signature under some key, where the signature's
-- bytes are well-formed.
pub record IsAsked (q : Question) : Type 0 where
  pub key : Key
  pub message : List ℕ
  pub signature : Signature
  pub form : IsSignatureBlob signature.algorithm signature.blob
  pub is : question key message signature ≡ Some q

-- Something is asked over which a verifier may run out of memory.
abbrev pub RunsOut : (Question → Type 0) → Option Question → Type 0
RunsOut runs_out None = ⊥
RunsOut runs_out (Some q) = runs_out q

-- Where something is asked, memory was refused only by the verifier.
abbrev pub AsksVerifier : {X : Type 0} → (Question → Type 0) → Option Question → Result X Error → Type 0
AsksVerifier runs_out None result = Unit {0}
AsksVerifier runs_out (Some q) (Ok x) = Unit {0}
AsksVerifier runs_out (Some q) (Err e) = e ≡ Memory → runs_out q
