use Rattle.std.proofs.Common.{[], ◌∷◌, None, Some, arith, codes, refl}
use Rattle.sshkey_entries.specs.KnownHosts.{CertAuthority, Patterns}
use Rattle.sshkey_model.specs.KeyExamples.{ed25519_key}
use Rattle.sshkey_entries.specs.HostVerdicts.{HidesEntry, Lists}
use Rattle.sshkey_matching.specs.Patterns.{patterns}
use Rattle.sshkey_known_hosts.specs.Examples.{broken_line, by_line, host, line}
use Rattle.sshkey_known_hosts.specs.Hmac.{hmac_sha1}
use Rattle.sshkey_known_hosts.proofs.ExampleLemmas.{after_hosts, for_others, host_fits, host_line, other_host, parts, said_of_host, without_key}
use Rattle.sshkey_known_hosts.proofs.HeldLines.{no_lines_same, same_more, same_passed}
use Rattle.sshkey_known_hosts.proofs.HeldNames.{others_say_nothing}
use Rattle.sshkey_known_hosts.proofs.Verdicts.{this}
use Rattle.sshkey_known_hosts.proofs.examples.same_lines.Goals as goal

pub returns : goal.returns
returns c =
    let other = line None (codes "g.example") in
    let nothing = others_say_nothing hmac_sha1 host other (for_others other None (codes "g.example") after_hosts (parts None (codes "g.example") refl) (Patterns (patterns (codes "g.example"))) other_host.0 host other_host.1) in
    let by : Lists hmac_sha1 host (Some CertAuthority) ed25519_key by_line = record { entry = record { marker = Some CertAuthority; hosts = Patterns (patterns host); key = ed25519_key; comment = [] }; read = host_line (Some CertAuthority); marker_is = refl; key_is = refl; is_for = host_fits } in (
      same_more hmac_sha1 host (other ∷ []) [] (line None host ∷ []) (same_passed hmac_sha1 host [] [] (other ∷ []) (no_lines_same hmac_sha1 host) nothing),
      λ same. let s = (same.listed ed25519_key).0 said_of_host.0.0.2 in omega (arith, s.2),
      λ same. let s = (same.revoked ed25519_key).0 said_of_host.1.0 in omega (arith, s.2),
      λ same. let s = (same.authority ed25519_key).0 (this (Lists hmac_sha1 host (Some CertAuthority) ed25519_key) by_line by) in omega (arith, s.2),
      λ same. let s = same.hidden.0 (this (HidesEntry hmac_sha1 host) broken_line without_key) in omega (arith, s.2),
    )
