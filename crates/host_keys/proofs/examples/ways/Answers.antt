use Rattle.std.proofs.Common.{◌≡◌, [], ◌∷◌, None, codes, inl, inr, refl, arith, lit<}
use Rattle.std.specs.Int.Count.{count_leading_zeros}
use Rattle.sshkey_model.specs.CertificateExamples.{authority}
use Rattle.sshkey_model.specs.KeyExamples.{ed25519_key}
use Rattle.sshkey_model.proofs.LineTests.{lacks}
use Rattle.sshkey_known_hosts.specs.Examples.{host, line}
use Rattle.sshkey_known_hosts.specs.Hmac.{hmac_sha1}
use Rattle.sshkey_known_hosts.specs.declared.verdict.Verdict.TheVariants as verdict
use Rattle.sshkey_known_hosts.proofs.ExampleLemmas.{said_of_host}
use Rattle.sshkey_known_hosts.proofs.Verdicts.{one_verdict}
use Rattle.host_keys.specs.Examples.{login, own_fields}
use Rattle.host_keys.proofs.ExampleLemmas.{at_standard, by_line_of_key, key_of_fields, trusts, two_names, unsaid_other}
use Rattle.host_keys.proofs.examples.ways.Goals as goal

pub returns : goal.returns
unfolding count_leading_zeros
returns c =
    let plain = said_of_host.0 in
    let by = trusts 22 100 200 [] at_standard (omega arith) (omega arith) (lit< tt) in (
      by,
      λ t. t.refused by,
      λ t. unsaid_other login ed25519_key authority verdict.Unknown verdict.Trusted by_line_of_key (λ e. cc e) t.trusted_by,
      key_of_fields login own_fields (inl ((λ e. cc e), plain.0)) refl refl (lacks 0 (codes "id") refl) two_names.read refl,
      λ t. elim t.key.listed [
        | inl s ↦ let e : verdict.Trusted ≡ verdict.Changed = one_verdict hmac_sha1 host authority (line None host ∷ []) verdict.Trusted verdict.Changed s.1 plain.1 in cc e
        | inr s ↦ let e : verdict.Trusted ≡ verdict.Changed = one_verdict hmac_sha1 host authority (line None host ∷ []) verdict.Trusted verdict.Changed s.1 plain.1 in cc e
      ],
    )
