use Rattle.std.proofs.Common.{◌≡◌, [], inl, inr, refl, subst, sym}
use Rattle.std.proofs.lemmas.Result.{err_from_is_err_and}
use Rattle.std.specs.Prelude.{IsErrAnd}
use Rattle.ssh_key.specs.base.Causes.{Faulty, cause}
use Rattle.ssh_key.specs.model.Reading.{whole}
use Rattle.ssh_key.specs.model.Signatures.{signature_at, SpellsSignature}
use Rattle.ssh_key.specs.model.Verification.{IsAccepted}
use Rattle.ssh_key.specs.keys.Keys.{key_of}
use Rattle.ssh_key.proofs.Acceptance.{other_cause, unspelled}
use Rattle.sshkey_examples.proofs.Answered.{answered}
use Rattle.sshkey_examples.proofs.Faults.{asked, no_fault, whatever}
use Rattle.sshkey_examples.proofs.signed.is_signed.Goals as goal

pub returns-in_err-signature-clause-readable : goal.returns-in_err-signature-clause-readable
returns-in_err-signature-clause-readable g c =
    let p = err_from_is_err_and c.from_residual.result c.from_residual.ensures.1 in
    rw (p.1, p.2) (unspelled SpellsSignature _ _ c.in_err-signature.ensures.accepts)

-- the blob spells the signature that was verified, and so no other one
pub returns-clause-answer : goal.returns-clause-answer
returns-clause-answer g c =
    let spelled = c.in_ok-signature.ensures.accepts.spelled in
    answered _ _ _ _
    (λ accepted. record { signature = _; spelled = spelled; accepted = accepted })
    (λ signed. subst (λ s. IsAccepted (g.V.RawVerifier.accepts c.args.verifier.now) (key_of c.args.key.now) c.args.message.now s) (sym (c.one_signature.ensures _ _ _ _ [] [] spelled signed.spelled refl).0) signed.accepted)
    c.verify.ensures.exactly c.answer_of.ensures

pub returns-in_err-signature-clause-fault : goal.returns-in_err-signature-clause-fault
returns-in_err-signature-clause-fault g c =
    let p = err_from_is_err_and c.from_residual.result c.from_residual.ensures.1 in
    rw (p.1, p.2) (λ other. c.in_err-signature.ensures.gives.fault (other_cause _ other) refl)

pub returns-in_err-signature-clause-memory : goal.returns-in_err-signature-clause-memory
returns-in_err-signature-clause-memory g c =
    let p = err_from_is_err_and c.from_residual.result c.from_residual.ensures.1 in
    rw (p.1, p.2) (λ memory. inl (asked c.args.blob.now _ c.in_err-signature.ensures.asks memory))

pub returns-clause-fault : goal.returns-clause-fault
returns-clause-fault g c = no_fault (λ e. IsErrAnd (whole signature_at c.args.blob.now) (λ fault. cause e ≡ Faulty fault)) _ c.answer_of.result c.answer_of.ensures

pub returns-clause-memory : goal.returns-clause-memory
returns-clause-memory g c = whatever c.answer_of.result (inr (_, c.in_ok-signature.ensures.accepts.spelled))
