use Rattle.std.proofs.Common.{[], None, Some, codes, refl, sym}
use Rattle.sshkey_entries.specs.KnownHosts.{CertAuthority, Patterns}
use Rattle.sshkey_model.specs.KeyExamples.{ed25519_key}
use Rattle.sshkey_public.specs.PublicKeys.{public_of}
use Rattle.sshkey_matching.specs.Patterns.{patterns}
use Rattle.sshkey_known_hosts.specs.Examples.{by_line, host}
use Rattle.sshkey_known_hosts.specs.Hmac.{hmac_sha1}
use Rattle.sshkey_known_hosts.proofs.ExampleLemmas.{after_hosts, for_others, host_fits, host_is, host_line, never, other_host, parts, unnamed_elsewhere, without_key}
use Rattle.sshkey_known_hosts.proofs.Hosts.{tells_none}
use Rattle.sshkey_known_hosts.proofs.Verdicts.{same_entry}
use Rattle.sshkey_known_hosts.proofs.examples.line_kinds.Goals as goal

pub returns : goal.returns
returns c =
    let by = host_line (Some CertAuthority) in (
      without_key,
      for_others by_line (Some CertAuthority) host after_hosts (parts (Some CertAuthority) host refl) (Patterns (patterns host)) host_is (codes "g.example") unnamed_elsewhere,
      λ k same comment. (record { entry = record { marker = Some CertAuthority; hosts = Patterns (patterns host); key = ed25519_key; comment = [] }; read = by; marker_is = refl; key_is = sym same; is_for = host_fits }, (λ _. comment, λ _. comment)),
      λ k entry. let mark = (same_entry hmac_sha1 host ed25519_key by_line _ by None (public_of k) entry.0).0 in cc mark,
      refl,
      refl,
      refl,
      λ k. refl,
      (Patterns (patterns host), host_is, (λ yes. host_fits, λ fits. refl)),
      (Patterns (patterns (codes "g.example")), other_host.0, (λ yes. absurd (never yes), λ fits. absurd (other_host.1 fits))),
      tells_none hmac_sha1 host [] refl,
    )
