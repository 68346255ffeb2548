use Rattle.std.proofs.Common.{◌≡◌, ap, ◌∙◌}
use Rattle.std.proofs.lemmas.Result.{IfOk-weaker}
use Rattle.std.specs.Prelude.{decimal, string_bytes}
use Rattle.sshkey_cert.specs.Certificates.{certificate_of}
use Rattle.sshkey_model.specs.Lines.{key_name}
use Rattle.sshkey_tool.specs.Lines.{type_word, in_lines, subject_lines}
use Rattle.sshkey_tool.proofs.Lines.{subject_is, subject_text}
use Rattle.sshkey_tool.proofs.certificate.subject_lines.Goals as goal

pub returns : goal.returns
returns c =
    let it = certificate_of c.args.certificate.now in
    let name = c.algorithm_name-name.result.now in
    let kind = c.type_word-kind.result.now in
    let serial = decimal c.serial-serial.result in
    let key_id = c.key_id-key_id.result.now in
    IfOk-weaker c.format.result
    (λ s. string_bytes s ≡ subject_text name kind serial key_id)
    (λ s. string_bytes s ≡ in_lines (subject_lines it))
    (λ s wrote. subject_is it name kind serial key_id (string_bytes s)
    (c.algorithm_name-name.ensures ∙ ap key_name c.public_key.ensures.value)
    (c.type_word-kind.ensures ∙ ap type_word c.cert_type.ensures)
    (ap decimal c.serial-serial.ensures)
    c.key_id-key_id.ensures
    wrote)
    c.format.ensures.ok
