use Rattle.std.proofs.Common.{sym, ◌∙◌, inl, inr}
use Rattle.std.proofs.lemmas.Result.{err_from_is_err_and}
use Rattle.sshkey_cert.proofs.Certificates.{name_needs, no_certificate, no_key}
use Rattle.sshkey_cert.proofs.key_or_certificate.KeyOrCertificate.from_bytes.Goals as goal

pub returns-in_err-from_bytes-clause-accepts : goal.returns-in_err-from_bytes-clause-accepts
returns-in_err-from_bytes-clause-accepts c =
    let p = err_from_is_err_and c.from_residual-in_err-from_bytes.result c.from_residual-in_err-from_bytes.ensures.1 in
    rw (p.1, p.2) (no_certificate _ _ (sym c.in_ok-names_certificate.ensures.value ∙ c.if-branch.true) c.in_err-from_bytes.ensures.accepts)

pub returns-in_err-decode_whole-clause-accepts : goal.returns-in_err-decode_whole-clause-accepts
returns-in_err-decode_whole-clause-accepts c =
    let p = err_from_is_err_and c.from_residual-in_err-decode_whole.result c.from_residual-in_err-decode_whole.ensures.1 in
    rw (p.1, p.2) (no_key _ _ (sym c.in_ok-names_certificate.ensures.value ∙ c.if-branch.false) c.in_err-decode_whole.ensures.accepts)

pub returns-in_err-names_certificate-clause-asks : goal.returns-in_err-names_certificate-clause-asks
returns-in_err-names_certificate-clause-asks c =
    let p = err_from_is_err_and c.from_residual.result c.from_residual.ensures.1 in
    rw (p.1, p.2) (λ memory sound. name_needs _ _ (c.in_err-names_certificate.ensures.asks memory sound))

pub returns-in_err-from_bytes-clause-asks : goal.returns-in_err-from_bytes-clause-asks
returns-in_err-from_bytes-clause-asks c =
    let p = err_from_is_err_and c.from_residual-in_err-from_bytes.result c.from_residual-in_err-from_bytes.ensures.1 in
    rw (p.1, p.2) (λ memory sound. inl (sym c.in_ok-names_certificate.ensures.value ∙ c.if-branch.true, c.in_err-from_bytes.ensures.asks memory sound))

pub returns-in_err-decode_whole-clause-asks : goal.returns-in_err-decode_whole-clause-asks
returns-in_err-decode_whole-clause-asks c =
    let p = err_from_is_err_and c.from_residual-in_err-decode_whole.result c.from_residual-in_err-decode_whole.ensures.1 in
    rw (p.1, p.2) (λ memory sound. inr (sym c.in_ok-names_certificate.ensures.value ∙ c.if-branch.false, c.in_err-decode_whole.ensures.asks memory sound))
