use Rattle.std.proofs.Common.{◌∙◌, sym}
use Rattle.sshkey_known_hosts.proofs.UnreadableLines.{hides_exactly}
use Rattle.sshkey_known_hosts.proofs.unreadable.hides_entry.Goals as goal

pub returns-clause-answer : goal.returns-clause-answer
returns-clause-answer g c =
    let text = c.skip_blanks-text.result.now in
    hides_exactly (g.H.HostHasher.hmac c.args.hmac.now) c.args.name.now c.args.line.now text c.skip_blanks-text.ensures
    (sym c.is_filled.ensures ∙ c.if-not-is_filled.false)
    c.in_ok-read_host_line.field-0 c.in_ok-read_host_line.ensures.answer c.is_unreadable.result c.is_unreadable.ensures
