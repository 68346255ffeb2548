use Rattle.std.proofs.Common.{option_map}
use Rattle.sshkey_known_hosts.specs.HostEntries.{marker_of}
use Rattle.sshkey_known_hosts.proofs.HostCuts.{never_refused, no_others}
use Rattle.sshkey_known_hosts.proofs.host_line.read_host_line.Goals as goal

pub returns-in-Named-clause-asks : goal.returns-in-Named-clause-asks
returns-in-Named-clause-asks g c = never_refused c.read_fields.result (no_others (g.H.HostHasher.hmac c.args.hmac.now) c.args.name.now c.args.line.now (option_map marker_of c.in-Named.marker) c.in-Named.fields.now c.in-Named.ensures)
