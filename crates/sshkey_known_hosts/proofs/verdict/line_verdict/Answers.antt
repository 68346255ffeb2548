use Rattle.std.proofs.Common.{option_map}
use Rattle.sshkey_keys.specs.Keys.{key_of}
use Rattle.sshkey_known_hosts.specs.HostEntries.{marker_of}
use Rattle.sshkey_known_hosts.proofs.HostCuts.{never_refused, no_others}
use Rattle.sshkey_known_hosts.proofs.Verdicts.{hides, passed_over}
use Rattle.sshkey_known_hosts.proofs.verdict.line_verdict.Goals as goal

pub returns-in-ForOthers-clause-answer : goal.returns-in-ForOthers-clause-answer
returns-in-ForOthers-clause-answer g c = passed_over (g.H.HostHasher.hmac c.args.hmac.now) c.args.name.now (key_of c.args.key.now) c.args.line.now c.in-ForOthers.ensures

pub returns-in-Named-clause-asks : goal.returns-in-Named-clause-asks
returns-in-Named-clause-asks g c = never_refused c.fields_verdict.result (no_others (g.H.HostHasher.hmac c.args.hmac.now) c.args.name.now c.args.line.now (option_map marker_of c.in-Named.marker) c.in-Named.fields.now c.in-Named.ensures)

pub returns-in-Unreadable-clause-answer : goal.returns-in-Unreadable-clause-answer
returns-in-Unreadable-clause-answer g c = let it = c.in-Unreadable.ensures in hides (g.H.HostHasher.hmac c.args.hmac.now) c.args.name.now (key_of c.args.key.now) c.args.line.now it.0 it
