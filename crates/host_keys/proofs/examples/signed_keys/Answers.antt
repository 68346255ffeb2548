use Rattle.std.proofs.Common.{◌⊎◌, [], Some, codes, inl, inr, refl, arith}
use Rattle.sshkey_entries.specs.KnownHosts.{CertAuthority, Revoked}
use Rattle.sshkey_model.specs.CertificateExamples.{authority}
use Rattle.sshkey_model.specs.KeyExamples.{ed25519_key}
use Rattle.sshkey_matching.specs.Patterns.{patterns}
use Rattle.sshkey_known_hosts.specs.Examples.{broken_line, by_line, host, line}
use Rattle.sshkey_known_hosts.specs.Hmac.{hmac_sha1}
use Rattle.sshkey_known_hosts.specs.declared.verdict.Verdict.TheVariants as verdict
use Rattle.sshkey_known_hosts.proofs.ExampleLemmas.{hidden, host_line, of_none, of_unnamed, pair, said_of_host, unnamed_elsewhere, without_key}
use Rattle.sshkey_known_hosts.proofs.Verdicts.{nothing}
use Rattle.host_keys.proofs.ExampleLemmas.{no_other_authority, signed_by, unmarked_none}
use Rattle.host_keys.proofs.examples.signed_keys.Goals as goal

neither : {A B : Type 0} → (A → ⊥) → (B → ⊥) → A ⊎ B → ⊥
neither a b either = elim either [ inl x ↦ a x | inr y ↦ b y ]

pub returns : goal.returns
unfolding patterns
returns c =
    let by = said_of_host.2 in
    let plain = said_of_host.0 in
    let gone = said_of_host.1 in
    let odd = hidden host broken_line without_key in
    let elsewhere = of_unnamed (codes "g.example", host) refl (Some CertAuthority) in
    let revoking = line (Some Revoked) host in
    let revoked = pair host by_line revoking verdict.Unknown verdict.Unknown verdict.Revoked verdict.Unknown by gone in
    let unread = pair host by_line broken_line verdict.Unknown verdict.Unknown verdict.Unreadable verdict.Unreadable by odd in (
      signed_by,
      (neither plain.1.0 plain.0.0, plain.0.1, unmarked_none),
      (neither (nothing hmac_sha1 host authority).0 (nothing hmac_sha1 host ed25519_key).0, (nothing hmac_sha1 host ed25519_key).1, λ s. omega (arith, s.2)),
      λ v. unmarked_none v.2,
      (neither by.0.0 by.1.0, by.0.1, no_other_authority),
      (neither elsewhere.1.0 elsewhere.0.0, elsewhere.0.1, of_none (codes "g.example") by_line (Some CertAuthority) _ [] (host_line (Some CertAuthority)) ed25519_key (λ mark same fits. unnamed_elsewhere fits)),
      inr revoked.0,
      λ v. v.0 (inr revoked.0),
      inl revoked.0,
      inl revoked.0,
      (neither unread.1.0 unread.0.0, unread.0.1),
      λ v. v.1 unread.0.1,
      λ v. v,
    )
