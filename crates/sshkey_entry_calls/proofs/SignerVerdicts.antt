-- The verdict on an SSH signature, given what the caller's verification said.
use denote.Ref.{Bor}
use Rattle.std.proofs.Common.{◌≡◌, ◌≢◌, ◌<◌, arith, ◌∙◌, ℕ, List, [], Bool, subst, Option, Some, None, Result, Ok, Err, IfErr, refl, sym}
use Rattle.allowed_signers.specs.AllowedSigners.{Counts, HasSignature, HasSigned, IsWhy, OkExactly}
use Rattle.allowed_signers.specs.declared.signers.SignerRefusal.{SignerRefusal}
use Rattle.allowed_signers.specs.declared.signers.SignerRefusal.TheVariants.{Memory, NoIdentity, NoSignature, NotAllowed, NotVerified, Revoked}
use Rattle.sshkey_base.specs.declared.error.Error.{Error}
use Rattle.sshkey_calls.specs.Validations.{is_yes_number}
use Rattle.sshkey_calls.proofs.Validations.{same_asking}
use Rattle.sshkey_model.specs.SignedMessages.{signed_by}
use Rattle.sshkey_model.specs.SshSignatures.{SshSignature}
use Rattle.sshkey_model.specs.Verification.{Question, question}
use Rattle.sshkey_model.specs.Verification as model
use Rattle.sshkey_revoked_keys.specs.declared.revoked_keys.RevokedKeys.{RevokedKeys}
use Rattle.sshkey_sshsig.specs.SshSignatureFormats.{SpellsSshSignature}
use Rattle.sshkey_entry_calls.specs.Revocations.{AreReadOf, one_revokes_key, revoked_status}
use Rattle.sshkey_entry_calls.specs.SshSignatures.{IsJudged, SaysOf, TellsSigner, verdict_status}

-- ---- from a verdict to its number

module _ (accepts : Question → Bool) (revokes : List ℕ → Bool) (of_revoked : ℕ) (signers identity namespace message : List ℕ) (time : ℕ) (bytes : List ℕ) where
  refused : (r : SignerRefusal) → verdict_status of_revoked (Err r) ≢ 0 → (verdict_status of_revoked (Err r) ≢ 1 → HasSignature bytes (Counts accepts revokes signers identity namespace message time) → ⊥) → IsWhy accepts revokes signers identity namespace message time bytes r → IsJudged accepts revokes of_revoked signers identity namespace message time bytes (verdict_status of_revoked (Err r))
  refused r some none why = record {
    counts = record { yes_ = λ zero_. absurd (some zero_); no_ = λ _. none };
    first = λ _ _. (r, why, refl);
  }

  pub judged : 1 < of_revoked → (verdict : Result (Unit {0}) SignerRefusal) → OkExactly (HasSignature bytes (Counts accepts revokes signers identity namespace message time)) verdict → IfErr verdict (IsWhy accepts revokes signers identity namespace message time bytes) → IsJudged accepts revokes of_revoked signers identity namespace message time bytes (verdict_status of_revoked verdict)
  judged high (Ok x) holds why = record {
    counts = record { yes_ = λ _. holds; no_ = λ some. absurd (some refl) };
    first = λ some. absurd (some refl);
  }
  judged high (Err NoSignature) none why = refused NoSignature (λ e. cc e) (λ _. none (λ e. cc e)) why
  judged high (Err NoIdentity) none why = refused NoIdentity (λ e. cc e) (λ _. none (λ e. cc e)) why
  judged high (Err NotAllowed) none why = refused NotAllowed (λ e. cc e) (λ _. none (λ e. cc e)) why
  judged high (Err Revoked) none why = refused Revoked (λ e. absurd (omega (arith, high, e))) (λ _. none (λ e. cc e)) why
  judged high (Err NotVerified) none why = refused NotVerified (λ e. cc e) (λ _. none (λ e. cc e)) why
  judged high (Err Memory) none why = refused Memory (λ e. cc e) (λ other. absurd (other refl)) why

-- ---- the verifier that says to every question what was said to the one

module _ (accepts : Question → Bool) (bytes message : List ℕ) (is_verified : ℕ) (says : SaysOf accepts bytes message is_verified) where
  same_answer : (f : SshSignature) → SpellsSshSignature f bytes → (o : Option Question) → question f.key (signed_by f message) f.signature ≡ o → model.is_yes (λ _. is_yes_number is_verified) o ≡ model.is_yes accepts o
  same_answer f spelled None e = refl
  same_answer f spelled (Some q) e = sym (says f spelled q e)

  same : (f : SshSignature) → SpellsSshSignature f bytes → model.is_yes (λ _. is_yes_number is_verified) (question f.key (signed_by f []) f.signature) ≡ model.is_yes accepts (question f.key (signed_by f message) f.signature)
  same f spelled = same_asking (is_yes_number is_verified) f.signature.algorithm f.key (signed_by f []) (signed_by f message) f.signature ∙ same_answer f spelled (question f.key (signed_by f message) f.signature) refl

  module _ (namespace : List ℕ) (f : SshSignature) (spelled : SpellsSshSignature f bytes) where
    pub there : HasSigned (λ _. is_yes_number is_verified) namespace [] f → HasSigned accepts namespace message f
    there has = record { verified = record { same_key = refl; same_namespace = has.verified.same_namespace; accepted = sym (same f spelled) ∙ has.verified.accepted }; nothing_reserved = has.nothing_reserved }

    pub back : HasSigned accepts namespace message f → HasSigned (λ _. is_yes_number is_verified) namespace [] f
    back has = record { verified = record { same_key = refl; same_namespace = has.verified.same_namespace; accepted = same f spelled ∙ has.verified.accepted }; nothing_reserved = has.nothing_reserved }

  module _ (revokes : List ℕ → Bool) (of_revoked : ℕ) (signers identity namespace : List ℕ) (time : ℕ) where
    why_there : (r : SignerRefusal) → IsWhy (λ _. is_yes_number is_verified) revokes signers identity namespace [] time bytes r → IsWhy accepts revokes signers identity namespace message time bytes r
    why_there NoSignature why = why
    why_there NoIdentity why = why
    why_there NotAllowed why = why
    why_there Revoked why = why
    why_there NotVerified why = (why.0, (why.1.0, why.1.1, (why.1.2.0, why.1.2.1, λ has. why.1.2.2 (back namespace why.1.0 why.1.1 has))))
    why_there Memory why = why

    pub judged_there : (n : ℕ) → IsJudged (λ _. is_yes_number is_verified) revokes of_revoked signers identity namespace [] time bytes n → IsJudged accepts revokes of_revoked signers identity namespace message time bytes n
    judged_there n is = record {
      counts = record {
        yes_ = λ zero_.
            let h = is.counts.yes_ zero_ in
            (h.0, h.1, record { identity_given = h.2.identity_given; allowed = h.2.allowed; unrevoked = h.2.unrevoked; signed = there namespace h.0 h.1 h.2.signed });
        no_ = λ some other h. is.counts.no_ some other (h.0, h.1, record { identity_given = h.2.identity_given; allowed = h.2.allowed; unrevoked = h.2.unrevoked; signed = back namespace h.0 h.1 h.2.signed });
      };
      first = λ some other.
          let w = is.first some other in
          (w.0, why_there w.0 w.1, w.2);
    }

pub told : (signers identity namespace : List ℕ) (time : ℕ) (revoked : List (Bor (List ℕ))) (is_verified : ℕ) (bytes : List ℕ) (n : ℕ) (b : Bool) → b ≡ is_yes_number is_verified → (n ≢ 1 → (reads : List (Result RevokedKeys Error)) × AreReadOf revoked reads × IsJudged (λ _. b) (one_revokes_key reads) (revoked_status reads) signers identity namespace [] time bytes n) → TellsSigner signers identity namespace time revoked is_verified bytes n
told signers identity namespace time revoked is_verified bytes n b same judged spelled not_memory =
    let j = judged not_memory in
    (j.0, j.1, λ accepts message says. judged_there accepts bytes message is_verified says (one_revokes_key j.0) (revoked_status j.0) signers identity namespace time n (subst (λ (y : Bool). IsJudged (λ _. y) (one_revokes_key j.0) (revoked_status j.0) signers identity namespace [] time bytes n) same j.2))
