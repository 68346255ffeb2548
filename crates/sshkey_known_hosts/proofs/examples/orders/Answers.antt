use Rattle.std.proofs.Common.{None, Some}
use Rattle.sshkey_entries.specs.KnownHosts.{CertAuthority}
use Rattle.sshkey_model.specs.CertificateExamples.{authority}
use Rattle.sshkey_model.specs.KeyExamples.{ed25519_key}
use Rattle.sshkey_known_hosts.specs.Examples.{broken_line, host, line, other_line, revoking}
use Rattle.sshkey_known_hosts.specs.Hmac.{hmac_sha1}
use Rattle.sshkey_known_hosts.specs.declared.verdict.Verdict.TheVariants.{Changed, Revoked, Trusted, Unknown, Unreadable}
use Rattle.sshkey_known_hosts.proofs.Verdicts.{nothing}
use Rattle.sshkey_known_hosts.proofs.ExampleLemmas.{hidden, other_said, pair, said_of_host, without_key}
use Rattle.sshkey_known_hosts.proofs.examples.orders.Goals as goal

pub returns : goal.returns
returns c =
    let plain = said_of_host.0 in
    let gone = said_of_host.1 in
    let by = said_of_host.2 in
    let odd = hidden host broken_line without_key in (
      (nothing hmac_sha1 host ed25519_key, nothing hmac_sha1 host authority),
      pair host (line None host) revoking Trusted Changed Revoked Unknown plain gone,
      pair host revoking (line None host) Revoked Unknown Trusted Changed gone plain,
      pair host revoking broken_line Revoked Unknown Unreadable Unreadable gone odd,
      pair host broken_line revoking Unreadable Unreadable Revoked Unknown odd gone,
      pair host (line None host) broken_line Trusted Changed Unreadable Unreadable plain odd,
      pair host broken_line (line None host) Unreadable Unreadable Trusted Changed odd plain,
      pair host (line None host) other_line Trusted Changed Changed Trusted plain other_said,
      pair host other_line (line None host) Changed Trusted Trusted Changed other_said plain,
      pair host other_line (line (Some CertAuthority) host) Changed Trusted Unknown Unknown other_said by,
      λ v. v.1 (pair host broken_line (line None host) Unreadable Unreadable Trusted Changed odd plain).0.1,
      λ v. v.2 (pair host other_line (line None host) Changed Trusted Trusted Changed other_said plain).0.2,
    )
