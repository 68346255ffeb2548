use Rattle.std.proofs.Common.{◌≡◌, ◌∙◌, [], ap, refl, subst, sym, false, true}
use Rattle.std.proofs.lemmas.Bool.{true≢false}
use Rattle.std.proofs.lemmas.Result.{err_from_is_err_and}
use Rattle.sshkey_keys.specs.Keys.{key_of}
use Rattle.sshkey_krl.specs.Revocations.{is_key_revoked}
use Rattle.sshkey_model.specs.Keys.{Key}
use Rattle.sshkey_model.specs.SshSignatures.{SshSignature}
use Rattle.sshkey_sshsig.specs.SshSignatures.{ssh_signature_of}
use Rattle.openssh_limits.specs.Padding.{padding}
use Rattle.allowed_signers.specs.AllowedSigners.{Counts, HasSigned, IsAllowed}
use Rattle.allowed_signers.proofs.Decisions.{nothing_counts}
use Rattle.allowed_signers.proofs.signers.verify.Goals as goal

pub returns-in_err-signature-clause-exactly : goal.returns-in_err-signature-clause-exactly
returns-in_err-signature-clause-exactly g c =
    let p = err_from_is_err_and c.from_residual.result c.from_residual.ensures.1 in
    rw (p.1, p.2) (nothing_counts (Counts (padding (g.V.RawVerifier.accepts c.args.verifier.now)) (g.R.Revocations.revokes_key c.args.revocations.now) c.args.signers.now c.args.identity.now c.args.namespace.now c.args.message.now c.args.unix_timestamp) c.args.signature.now _ c.in_err-signature.ensures)

pub returns-then-not-allowed-clause-exactly : goal.returns-then-not-allowed-clause-exactly
returns-then-not-allowed-clause-exactly g c = λ other has.
    let same = (c.one_ssh_signature.ensures has.0 (ssh_signature_of c.in_ok-signature.signature) c.args.signature.now c.args.signature.now [] [] has.1 c.in_ok-signature.ensures refl).0 in
    let allowed = subst (λ (k : Key). IsAllowed c.args.identity.now c.args.namespace.now c.args.unix_timestamp k c.args.signers.now) (ap (λ (f : SshSignature). f.key) same ∙ sym (ap key_of c.public_key-key.ensures)) has.2.allowed in
    let yes : c.in-Ok.allowed ≡ true = c.in-Ok.ensures.answer.1 allowed in absurd cc

pub returns-then-revoked-clause-exactly : goal.returns-then-revoked-clause-exactly
returns-then-revoked-clause-exactly g c = λ other has.
    let same = (c.one_ssh_signature.ensures has.0 (ssh_signature_of c.in_ok-signature.signature) c.args.signature.now c.args.signature.now [] [] has.1 c.in_ok-signature.ensures refl).0 in
    let unrevoked = subst (λ (k : Key). is_key_revoked (g.R.Revocations.revokes_key c.args.revocations.now) k ≡ false) (ap (λ (f : SshSignature). f.key) same ∙ sym (ap key_of c.public_key-key.ensures)) has.2.unrevoked in
    true≢false (sym c.if-revoked.true ∙ c.in-Ok-is_key_revoked.ensures.said ∙ unrevoked)

pub returns-then-not-signed-clause-exactly : goal.returns-then-not-signed-clause-exactly
returns-then-not-signed-clause-exactly g c = λ other has.
    let same = (c.one_ssh_signature.ensures has.0 (ssh_signature_of c.in_ok-signature.signature) c.args.signature.now c.args.signature.now [] [] has.1 c.in_ok-signature.ensures refl).0 in
    let has_signed = subst (HasSigned (padding (g.V.RawVerifier.accepts c.args.verifier.now)) c.args.namespace.now c.args.message.now) same has.2.signed in
    let yes : c.in-Ok-has_signed.signed ≡ true = c.in-Ok-has_signed.ensures.answer.1 has_signed in absurd cc
