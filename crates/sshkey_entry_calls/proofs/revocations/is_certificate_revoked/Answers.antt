use Rattle.std.proofs.Common.{◌∙◌, ap}
use Rattle.std.proofs.lemmas.Result.{err_from_is_err_and}
use Rattle.sshkey_cert_ref.specs.CertificateRef.{certificate_of}
use Rattle.sshkey_model.specs.Keys.{Key, normal_key}
use Rattle.sshkey_model.specs.Parts.{flat}
use Rattle.sshkey_entry_calls.specs.Revocations.{one_revokes, reads_of}
use Rattle.sshkey_entry_calls.proofs.RevokedFiles.{certificate_said}
use Rattle.sshkey_entry_calls.proofs.revocations.is_certificate_revoked.Goals as goal

pub returns-in_err-read-clause-unsaid : goal.returns-in_err-read-clause-unsaid
returns-in_err-read-clause-unsaid c =
    let p = err_from_is_err_and c.from_residual.result c.from_residual.ensures.1 in
    rw p.1 (λ _ _ said. c.in_err-read.ensures.accepts said.0 said.1)

pub returns-clause-said : goal.returns-clause-said
returns-clause-said c =
    let key = c.deref.ensures.value ∙ c.in_ok-key.ensures.bytes ∙ ap (λ (k : Key). flat (normal_key k)) c.in_ok-public_key.ensures.value in
    let signer = c.deref-2.ensures.value ∙ c.in_ok-signature_key-2.ensures.bytes ∙ ap (λ (k : Key). flat (normal_key k)) c.in_ok-signature_key.ensures.value in
    (certificate_of c.in_ok-read.read, c.in_ok-read.ensures.accepts, c.revokes_certificate.ensures ∙ certificate_said (one_revokes (reads_of c.args.files.now)) (certificate_of c.in_ok-read.read) _ _ _ _ key signer c.serial.ensures c.key_id.ensures)
