-- What is answered of an SSH signature, by a text of allowed signers (ssh-keygen(1), ALLOWED
-- SIGNERS).
use denote.Ref.{Bor}
use Rattle.std.specs.Prelude.{◌≡◌, ◌≢◌, ℕ, List, Bool, Some, Result, Ok, Err, ◌⊎◌, IsTrue, false}
use Rattle.allowed_signers.specs.AllowedSigners.{Counts, HasSignature, IsWhy, HasSigned}
use Rattle.allowed_signers.specs.declared.signers.SignerRefusal.{SignerRefusal}
use Rattle.allowed_signers.specs.declared.signers.SignerRefusal.TheVariants.{Memory, NoIdentity, NoSignature, NotAllowed, NotVerified, Revoked}
use Rattle.sshkey_base.specs.Judgements.{SpellsSome}
use Rattle.sshkey_base.specs.declared.error.Error.{Error}
use Rattle.sshkey_calls.specs.Validations.{SaysWhether, is_yes_number}
use Rattle.sshkey_model.specs.SignedMessages.{signed_by}
use Rattle.sshkey_model.specs.SshSignatures.{SshSignature}
use Rattle.sshkey_model.specs.Verification.{Question, question}
use Rattle.sshkey_revoked_keys.specs.declared.revoked_keys.RevokedKeys.{RevokedKeys}
use Rattle.sshkey_sshsig.specs.SshSignatureFormats.{SpellsSshSignature}
use Rattle.sshkey_entry_calls.specs.Revocations.{AreReadOf, one_revokes_key, revoked_status}
use Rattle.std.specs.List.{list_any}
use Rattle.sshkey_model.specs.Fingerprints.{Fingerprint, fingerprint, same_fingerprint}
use Rattle.sshkey_model.specs.Names.{Sha256}

-- the number of a verdict, where that one is told of a key that is revoked
abbrev pub verdict_status : ℕ → Result (Unit {0}) SignerRefusal → ℕ
verdict_status of_revoked (Ok x) = 0
verdict_status of_revoked (Err Memory) = 1
verdict_status of_revoked (Err NoSignature) = 30
verdict_status of_revoked (Err NotVerified) = 30
verdict_status of_revoked (Err NoIdentity) = 103
verdict_status of_revoked (Err NotAllowed) = 55
verdict_status of_revoked (Err Revoked) = of_revoked

-- ---- the verdict

-- That verifier says so about the question of the signature that the bytes spell, as one of the
-- message, if it raises one, and may say anything about all others.
abbrev pub SaysOf : (Question → Bool) → List ℕ → List ℕ → ℕ → Type 0
SaysOf accepts bytes message is_verified = (f : SshSignature) → SpellsSshSignature f bytes → (q : Question) → question f.key (signed_by f message) f.signature ≡ Some q → accepts q ≡ is_yes_number is_verified

-- 0 says exactly that the signature counts, and another number what is wrong first; 1 is memory.
pub record IsJudged (accepts : Question → Bool) (revokes : List ℕ → Bool) (of_revoked : ℕ) (signers identity namespace message : List ℕ) (time : ℕ) (bytes : List ℕ) (n : ℕ) : Type 0 where
  pub counts : SaysWhether (HasSignature bytes (Counts accepts revokes signers identity namespace message time)) n
  pub first : n ≢ 0 → n ≢ 1 → (r : SignerRefusal) × IsWhy accepts revokes signers identity namespace message time bytes r × (n ≡ verdict_status of_revoked (Err r))

-- For bytes that spell a signature the number says this, memory aside, about each message about
-- which the verification said so.
abbrev pub TellsSigner : List ℕ → List ℕ → List ℕ → ℕ → List (Bor (List ℕ)) → ℕ → List ℕ → ℕ → Type 0
TellsSigner signers identity namespace time revoked is_verified bytes n = SpellsSome SpellsSshSignature bytes → n ≢ 1 → (reads : List (Result RevokedKeys Error)) × AreReadOf revoked reads × ((accepts : Question → Bool) (message : List ℕ) → SaysOf accepts bytes message is_verified → IsJudged accepts (one_revokes_key reads) (revoked_status reads) signers identity namespace message time bytes n)

-- What is answered of an SSH signature, by a list of keys (PROTOCOL.sshsig).

-- its key has one of these fingerprints
abbrev pub is_by : List Fingerprint → SshSignature → Bool
is_by signers f = list_any (same_fingerprint (fingerprint Sha256 f.key)) signers

-- The signature counts: its key is one of those, and has signed the message in the namespace.
pub record CountsByKeys (accepts : Question → Bool) (signers : List Fingerprint) (namespace message : List ℕ) (f : SshSignature) : Type 0 where
  pub by : IsTrue (is_by signers f)
  pub signed : HasSigned accepts namespace message f

-- 0 says exactly that it counts, 55 that its key is none of those, and 30 that it is one, and has
-- not signed; 1 is memory.
pub record IsJudgedByKeys (accepts : Question → Bool) (signers : List Fingerprint) (namespace message : List ℕ) (f : SshSignature) (n : ℕ) : Type 0 where
  pub counts : SaysWhether (CountsByKeys accepts signers namespace message f) n
  pub first : n ≢ 0 → n ≢ 1 → ((n ≡ 55) × (is_by signers f ≡ false)) ⊎ ((n ≡ 30) × IsTrue (is_by signers f) × ¬ HasSigned accepts namespace message f)

-- For bytes that spell a signature the number says this, memory aside, about each message about
-- which the verification said so.
abbrev pub TellsByKeys : List Fingerprint → List ℕ → ℕ → List ℕ → ℕ → Type 0
TellsByKeys signers namespace is_verified bytes n = (f : SshSignature) → SpellsSshSignature f bytes → n ≢ 1 → (accepts : Question → Bool) (message : List ℕ) → SaysOf accepts bytes message is_verified → IsJudgedByKeys accepts signers namespace message f n
