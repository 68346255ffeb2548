use Rattle.std.proofs.Common.{◌≡◌, ◌++◌}
use Rattle.std.proofs.lemmas.Result.{IfOk-weaker}
use Rattle.std.specs.Prelude.{string_bytes}
use Rattle.sshkey_cert.specs.Certificates.{certificate_of}
use Rattle.sshkey_tool.specs.Lines.{in_lines, field_lines}
use Rattle.sshkey_tool.proofs.Lines.{fields_are}
use Rattle.sshkey_tool.proofs.certificate.field_lines.Goals as goal

pub returns : goal.returns
returns c =
    let it = certificate_of c.args.certificate.now in
    let subject = string_bytes c.in_ok-subject.subject in
    let window = string_bytes c.in_ok-window.window in
    IfOk-weaker c.format.result
    (λ s. string_bytes s ≡ subject ++ window)
    (λ s. string_bytes s ≡ in_lines (field_lines it))
    (λ s wrote. fields_are it subject window (string_bytes s) c.in_ok-subject.ensures c.in_ok-window.ensures wrote)
    c.format.ensures.ok
