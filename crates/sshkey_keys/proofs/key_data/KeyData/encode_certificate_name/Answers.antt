use Rattle.std.proofs.Common.{◌∙◌, sym, arith}
use Rattle.std.proofs.lemmas.Result.{err_from_is_err_and}
use Rattle.sshkey_model.specs.CertificateNames.{certificate_name}
use Rattle.sshkey_model.specs.Keys.{key_algorithm}
use Rattle.sshkey_model.specs.Parts.{bytes}
use Rattle.sshkey_base.proofs.Writing.{box_first, box_later, length_bytes}
use Rattle.sshkey_keys.specs.Keys.{key_of}
use Rattle.sshkey_keys.proofs.key_data.KeyData.encode_certificate_name.Goals as goal

pub returns-in_err-encode : goal.returns-in_err-encode
returns-in_err-encode g c =
    let name = certificate_name (key_algorithm (key_of c.args.self.now)) in
    let p = err_from_is_err_and c.from_residual.result c.from_residual.ensures.1 in
    rw (p.1, p.2) (box_first g.W.Writer.fault (bytes name) _ _ _ _ (c.certificate_name_len.ensures.value ∙ sym (length_bytes name)) c.in_err-encode.ensures)

pub returns : goal.returns
returns g c =
    let name = certificate_name (key_algorithm (key_of c.args.self.now)) in
    box_later g.W.Writer.fault (bytes name) _ _ _ _ _ (c.certificate_name_len.ensures.value ∙ sym (length_bytes name)) (omega (arith, c.certificate_name_len.ensures.short)) c.in_ok-encode.ensures c.write_certificate_name.ensures
