use Rattle.std.proofs.Common.{[], ◌∷◌, None, Some, codes, inl, inr, refl, sym, arith}
use Rattle.std.specs.Fmt.{digits}
use Rattle.std.specs.Int.Count.{count_leading_zeros}
use Rattle.sshkey_entries.specs.KnownHosts.{Revoked}
use Rattle.sshkey_model.specs.CertificateExamples.{authority}
use Rattle.sshkey_model.specs.KeyExamples.{ed25519_key}
use Rattle.sshkey_matching.specs.Patterns.{patterns}
use Rattle.sshkey_known_hosts.specs.Examples.{broken_line, host, line, other_line}
use Rattle.sshkey_known_hosts.specs.Hmac.{hmac_sha1}
use Rattle.sshkey_known_hosts.specs.declared.verdict.Verdict.TheVariants as verdict
use Rattle.sshkey_known_hosts.proofs.ExampleLemmas.{hidden, of_unnamed, other_said, pair, said_of_host, without_key}
use Rattle.sshkey_known_hosts.proofs.Verdicts.{nothing}
use Rattle.host_keys.specs.Examples.{login}
use Rattle.host_keys.proofs.ExampleLemmas.{asked, asked_other, never, untrusted}
use Rattle.host_keys.proofs.examples.host_keys.Goals as goal

pub returns : goal.returns
unfolding digits patterns count_leading_zeros
returns c =
    let plain = said_of_host.0 in
    let gone = said_of_host.1 in
    let odd = hidden host broken_line without_key in
    let at_port = of_unnamed (codes "[h.example]:2222", host) refl None in
    let elsewhere = of_unnamed (codes "g.example", host) refl None in
    let revoking = line (Some Revoked) host in (
      record { name = codes "H.Example"; asked = asked 22 (λ e. omega (arith, e)); holds = record { listed = inl ((λ e. cc e), plain.0); unrevoked = refl; accepted = refl } },
      record { name = codes "H.Example"; asked = asked 2222 (λ e. omega (arith, e)); holds = record { listed = inr (at_port.0, plain.0); unrevoked = refl; accepted = refl } },
      λ t. never (sym t.holds.unrevoked),
      untrusted login (codes "H.Example") (asked 22 (λ e. omega (arith, e))) verdict.Changed authority (inl ((λ e. cc e), plain.1)) (λ e. cc e) _,
      untrusted (record login { lines = [] }) (codes "H.Example") (asked 22 (λ e. omega (arith, e))) verdict.Unknown ed25519_key (inr (nothing hmac_sha1 host ed25519_key, nothing hmac_sha1 host ed25519_key)) (λ e. cc e) _,
      untrusted (record login { lines = other_line ∷ [] }) (codes "H.Example") (asked 22 (λ e. omega (arith, e))) verdict.Changed ed25519_key (inl ((λ e. cc e), other_said.0)) (λ e. cc e) _,
      untrusted (record login { lines = line None host ∷ revoking ∷ [] }) (codes "H.Example") (asked 22 (λ e. omega (arith, e))) verdict.Revoked ed25519_key (inl ((λ e. cc e), (pair host (line None host) revoking verdict.Trusted verdict.Changed verdict.Revoked verdict.Unknown plain gone).0)) (λ e. cc e) _,
      untrusted (record login { lines = line None host ∷ broken_line ∷ [] }) (codes "H.Example") (asked 22 (λ e. omega (arith, e))) verdict.Unreadable ed25519_key (inl ((λ e. cc e), (pair host (line None host) broken_line verdict.Trusted verdict.Changed verdict.Unreadable verdict.Unreadable plain odd).0)) (λ e. cc e) _,
      untrusted (record login { host = codes "g.example" }) (codes "g.example") asked_other verdict.Unknown ed25519_key (inr (elsewhere.0, elsewhere.0)) (λ e. cc e) _,
      λ t. t.asked.some_host refl,
      λ t. t.asked.some_port refl,
      record { name = codes "H.Example"; asked = asked 22 (λ e. omega (arith, e)); holds = refl },
      λ t. t.asked.some_host refl,
      λ t. t.asked.some_port refl,
    )
