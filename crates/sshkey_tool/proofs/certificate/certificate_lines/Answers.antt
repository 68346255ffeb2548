use Rattle.std.proofs.Common.{List, ℕ, [], ap, ◌∙◌}
use Rattle.std.specs.Prelude.{codes}
use Rattle.sshkey_cert.specs.Certificates.{certificate_of}
use Rattle.sshkey_model.specs.Keys.{Key}
use Rattle.sshkey_model.specs.Lines.{key_line}
use Rattle.sshkey_tool.specs.Lines.{in_lines, principal_lines}
use Rattle.sshkey_tool.proofs.Lines.{lines_are, options_text}
use Rattle.sshkey_tool.proofs.certificate.certificate_lines.Goals as goal

pub returns : goal.returns
returns c = lines_are (certificate_of c.args.certificate.now) _ _ _ _ _ _
    c.in_ok-fields.ensures
    (c.in_ok-principals.ensures ∙ ap (λ (ps : List (List ℕ)). in_lines (principal_lines ps)) c.valid_principals.ensures)
    (c.in_ok-critical.ensures ∙ ap (options_text (codes "critical option")) c.critical_options.ensures)
    (c.in_ok-extensions.ensures ∙ ap (options_text (codes "extension")) c.extensions.ensures)
    (c.in_ok-authority.ensures ∙ ap (λ (k : Key). key_line k []) c.signature_key.ensures.value)
    c.in_ok-format.ensures.ok
