use Rattle.std.proofs.Common.{None, Some}
use Rattle.sshkey_entries.specs.KnownHosts as known
use Rattle.sshkey_known_hosts.specs.Examples.{host, line, xmss_line}
use Rattle.sshkey_known_hosts.specs.declared.marker.Marker.TheVariants as marker
use Rattle.sshkey_known_hosts.specs.declared.verdict.Verdict.TheVariants.{Changed, Trusted, Unknown}
use Rattle.sshkey_known_hosts.proofs.ExampleLemmas.{hidden, pair, said_of_host}
use Rattle.sshkey_known_hosts.proofs.FormerLines.{misnamed_hides, webauthn_hides, xmss_said}
use Rattle.sshkey_known_hosts.proofs.examples.former_kinds.Goals as goal

pub returns : goal.returns
returns c = (
  xmss_said None,
  xmss_said (Some marker.Revoked),
  xmss_said (Some marker.CertAuthority),
  pair host (line None host) (xmss_line (Some known.Revoked)) Trusted Changed Unknown Unknown said_of_host.0 (xmss_said (Some marker.Revoked)),
  hidden host _ (misnamed_hides (Some known.Revoked)),
  hidden host _ (webauthn_hides (Some known.Revoked)),
)
