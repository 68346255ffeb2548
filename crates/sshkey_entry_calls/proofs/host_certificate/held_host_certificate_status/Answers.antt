use denote.Ref.{Bor}
use Rattle.std.proofs.Common.{List, ℕ, subst}
use Rattle.host_keys.specs.Hosts.{lines_of}
use Rattle.sshkey_entry_calls.specs.Hosts.{JudgesCertificate, held_lines}
use Rattle.sshkey_entry_calls.proofs.Hosts.{certificate_there}
use Rattle.sshkey_entry_calls.proofs.host_certificate.held_host_certificate_status.Goals as goal

pub returns-clause-verdict : goal.returns-clause-verdict
returns-clause-verdict c are =
    let login = c.args.login.now in
    let bytes = c.args.certificate.now in
    certificate_there login (held_lines login c.args.held.now.text.now) (lines_of c.in-Ok.texts.items) (c.in-Ok.ensures are) (λ _. c.args.said.now.is_yes) bytes c.host_certificate_status.new.known_by c.host_certificate_status.result
    (subst (λ (t : List (Bor (List ℕ))). JudgesCertificate login (lines_of t) (λ _. c.args.said.now.is_yes) bytes c.host_certificate_status.new.known_by c.host_certificate_status.result) c.deref.ensures.value c.host_certificate_status.ensures.verdict)
