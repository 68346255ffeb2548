use Rattle.std.proofs.Common.{inl, inr}
use Rattle.std.proofs.lemmas.Result.{err_from_is_err_and}
use Rattle.sshkey_cert_ref.specs.Certificates.{spelled_in}
use Rattle.sshkey_cert_ref.proofs.Certificates.{spelled_by, signer_spells, signature_spells}
use Rattle.sshkey_cert_ref.proofs.certificate_ref.CertificateRef.is_signed.Goals as goal

pub returns-clause-yes : goal.returns-clause-yes
returns-clause-yes g c =
    let r = c.args.self.now in
    let x = spelled_in r.bytes.now in
    let s = spelled_by r.bytes.now r.form in
    rw (c.deref.ensures.value, c.in_ok-message.ensures.value) at (c.in_ok-accepts.ensures.answer x.0.signed.signature_key x.0.signature (signer_spells r.bytes.now x s _ r.fields.signature_key) (signature_spells r.bytes.now x s _ r.last))

pub returns-in_err-message-clause-asks : goal.returns-in_err-message-clause-asks
returns-in_err-message-clause-asks g c =
    let p = err_from_is_err_and c.from_residual.result c.from_residual.ensures.1 in
    rw p.1 (inl c.in_err-message.ensures.asks)

pub returns-in_err-accepts-clause-asks : goal.returns-in_err-accepts-clause-asks
returns-in_err-accepts-clause-asks g c =
    let r = c.args.self.now in
    let x = spelled_in r.bytes.now in
    let s = spelled_by r.bytes.now r.form in
    let p = err_from_is_err_and c.from_residual-in_err-accepts.result c.from_residual-in_err-accepts.ensures.1 in
    rw p.1 (inr (rw (c.deref.ensures.value, c.in_ok-message.ensures.value) at (c.in_err-accepts.ensures.asks x.0.signed.signature_key x.0.signature (signer_spells r.bytes.now x s _ r.fields.signature_key) (signature_spells r.bytes.now x s _ r.last))))
