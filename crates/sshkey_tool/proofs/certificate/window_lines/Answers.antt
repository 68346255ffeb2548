use Rattle.std.proofs.Common.{◌≡◌, ap, ◌∙◌}
use Rattle.std.proofs.lemmas.Result.{IfOk-weaker}
use Rattle.std.specs.Prelude.{decimal, string_bytes}
use Rattle.sshkey_cert.specs.Certificates.{certificate_of}
use Rattle.sshkey_tool.specs.Lines.{end_text, in_lines, window_lines}
use Rattle.sshkey_tool.proofs.Lines.{window_is, window_text}
use Rattle.sshkey_tool.proofs.certificate.window_lines.Goals as goal

pub returns : goal.returns
returns c =
    let it = certificate_of c.args.certificate.now in
    let after = decimal c.valid_after-after.result in
    let before = string_bytes c.in_ok-before.before in
    IfOk-weaker c.format.result
    (λ s. string_bytes s ≡ window_text after before)
    (λ s. string_bytes s ≡ in_lines (window_lines it))
    (λ s wrote. window_is it after before (string_bytes s)
    (ap decimal c.valid_after-after.ensures.value)
    (c.in_ok-before.ensures ∙ ap end_text c.valid_before.ensures.value)
    wrote)
    c.format.ensures.ok
