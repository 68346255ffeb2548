use Rattle.std.proofs.Common.{option_map, sym, ◌∙◌}
use Rattle.sshkey_model.specs.Lines.{key_line}
use Rattle.sshkey_entries.specs.KnownHosts.{hosts_text}
use Rattle.sshkey_public.specs.PublicKeys.{public_of, comment_of}
use Rattle.sshkey_known_hosts.specs.HostEntries.{hosts_in, hosts_of, key_in, marker_in, marker_of}
use Rattle.sshkey_known_hosts.proofs.Entries.{written_so, so_written}
use Rattle.sshkey_known_hosts.proofs.entry.Entry.is_one_line.Goals as goal

pub returns-then-is_one_line : goal.returns-then-is_one_line
returns-then-is_one_line c =
    let marker = option_map marker_of (marker_in c.args.self.now) in
    let hosts = hosts_text (hosts_of (hosts_in c.args.self.now)) in
    let line = key_line (public_of (key_in c.args.self.now)) (comment_of (key_in c.args.self.now)) in
    let key = c.is_one_line-then-is_one_line.ensures in
    (λ yes. written_so marker hosts line (c.is_one_line.ensures.0 c.if-is_one_line.true) (key.0 yes), λ h. key.1 (so_written marker hosts line h).1)

pub returns-else-is_one_line : goal.returns-else-is_one_line
returns-else-is_one_line c =
    let marker = option_map marker_of (marker_in c.args.self.now) in
    let hosts = hosts_text (hosts_of (hosts_in c.args.self.now)) in
    let line = key_line (public_of (key_in c.args.self.now)) (comment_of (key_in c.args.self.now)) in
    (λ yes. cc (sym c.if-is_one_line.false ∙ yes), λ h. c.is_one_line.ensures.1 (so_written marker hosts line h).0)
