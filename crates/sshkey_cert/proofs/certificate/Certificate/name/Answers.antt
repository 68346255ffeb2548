use Rattle.std.proofs.Common.{◌≡◌, true, false, ap, sym, subst, ◌∙◌}
use Rattle.std.proofs.lemmas.Result.{err_from_is_err_and}
use Rattle.std.specs.Str.{IsUtf8}
use Rattle.sshkey_base.specs.Causes.{widened}
use Rattle.sshkey_base.proofs.Writing.{boxes_bytes, vector_refused}
use Rattle.sshkey_model.specs.Lines.{name_of_certificate}
use Rattle.sshkey_model.specs.Parts.{bytes}
use Rattle.sshkey_cert.specs.Certificates.{certificate_of}
use Rattle.sshkey_cert.proofs.Lines.{vector_bytes, text_bytes}
use Rattle.sshkey_cert.proofs.certificate.Certificate.name.Goals as goal

pub unreachable-requires : goal.unreachable-requires
unreachable-requires c =
    let name = name_of_certificate (certificate_of c.args.self.now) in
    let no : false ≡ true = c.in_default.ensures.succeeds (subst IsUtf8 (sym (vector_bytes name _ _ c.new-name.ensures.items c.in_ok-write_name.ensures)) c.is_text_in_certificates.ensures) in cc no

pub returns-clause-name : goal.returns-clause-name
returns-clause-name c =
    let name = name_of_certificate (certificate_of c.args.self.now) in
    text_bytes c.in-Ok.name _ c.in-Ok.ensures.ok ∙ vector_bytes name _ _ c.new-name.ensures.items c.in_ok-write_name.ensures

pub returns-in_err-write_name-clause-memory : goal.returns-in_err-write_name-clause-memory
returns-in_err-write_name-clause-memory c =
    let name = name_of_certificate (certificate_of c.args.self.now) in
    let p = err_from_is_err_and c.from_residual.result c.from_residual.ensures.1 in
    let refused = vector_refused (bytes name) _ _ _ (boxes_bytes name) c.in_err-write_name.ensures in
    rw p.1 (p.2 ∙ ap widened refused.1)
