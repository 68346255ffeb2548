use Rattle.std.proofs.Common.{◌≡◌, [], ◌∷◌, None, Some, codes, inl, inr, refl, sym, arith, lit<}
use Rattle.std.specs.Int.Count.{count_leading_zeros}
use Rattle.openssh_limits.specs.Limits.{AreReadPrincipals}
use Rattle.sshkey_entries.specs.KnownHosts.{Revoked}
use Rattle.sshkey_model.specs.CertificateExamples.{authority}
use Rattle.sshkey_model.specs.Certificates.{User}
use Rattle.sshkey_model.specs.KeyExamples.{ed25519_key}
use Rattle.sshkey_model.proofs.LineTests.{lacks}
use Rattle.sshkey_known_hosts.specs.Examples.{broken_line, by_line, host, line, other_line}
use Rattle.sshkey_known_hosts.specs.Hmac.{hmac_sha1}
use Rattle.sshkey_known_hosts.specs.declared.verdict.Verdict.TheVariants as verdict
use Rattle.sshkey_known_hosts.proofs.ExampleLemmas.{hidden, other_said, pair, said_of_host, without_key}
use Rattle.sshkey_known_hosts.proofs.Verdicts.{one_verdict}
use Rattle.host_keys.specs.Examples.{both_lines, by_itself, login, option, own_fields}
use Rattle.host_keys.specs.Hosts.{IsSaidOfKey}
use Rattle.host_keys.proofs.ExampleLemmas.{all_free, by_both_lines, by_line_of_key, key_of_fields, never, two_names, unsaid_other}
use Rattle.host_keys.proofs.examples.certified_keys.Goals as goal

nobody : AreReadPrincipals []
nobody = record { few = omega arith; no_zero = all_free [] refl }

pub returns : goal.returns
unfolding count_leading_zeros
returns c =
    let plain = said_of_host.0 in
    let gone = said_of_host.1 in
    let id = lacks 0 (codes "id") refl in
    let listed : IsSaidOfKey hmac_sha1 (codes "H.Example") 22 ed25519_key (line None host ∷ []) verdict.Trusted = inl ((λ e. cc e), plain.0) in
    let both = pair host by_line (line None host) verdict.Unknown verdict.Unknown verdict.Trusted verdict.Changed said_of_host.2 plain in
    let revoking = pair host other_line (line (Some Revoked) host) verdict.Changed verdict.Trusted verdict.Revoked verdict.Unknown other_said gone in
    let odd = pair host (line None host) broken_line verdict.Trusted verdict.Changed verdict.Unreadable verdict.Unreadable plain (hidden host broken_line without_key) in
    let for_users = record own_fields { certificate_type = User; critical_options = option (codes "x@example.com") [] ∷ []; valid_principals = [] } in (
      record {
        refused = λ t. unsaid_other login ed25519_key authority verdict.Unknown verdict.Trusted by_line_of_key (λ e. cc e) t.trusted_by;
        unrevoked = refl;
        no_line = unsaid_other login ed25519_key authority verdict.Unknown verdict.Revoked by_line_of_key (λ e. cc e);
        none_hidden = unsaid_other login ed25519_key authority verdict.Unknown verdict.Unreadable by_line_of_key (λ e. cc e);
        key = key_of_fields login own_fields listed refl refl id two_names.read refl;
      },
      record {
        refused = λ t. unsaid_other login ed25519_key authority verdict.Unknown verdict.Trusted by_line_of_key (λ e. cc e) t.trusted_by;
        unrevoked = refl;
        no_line = unsaid_other login ed25519_key authority verdict.Unknown verdict.Revoked by_line_of_key (λ e. cc e);
        none_hidden = unsaid_other login ed25519_key authority verdict.Unknown verdict.Unreadable by_line_of_key (λ e. cc e);
        key = key_of_fields login for_users listed refl refl id nobody refl;
      },
      λ t. elim t.key.key.listed [
        | inl s ↦ let e : verdict.Trusted ≡ verdict.Changed = one_verdict hmac_sha1 host authority (line None host ∷ []) verdict.Trusted verdict.Changed s.1 plain.1 in cc e
        | inr s ↦ let e : verdict.Trusted ≡ verdict.Changed = one_verdict hmac_sha1 host authority (line None host ∷ []) verdict.Trusted verdict.Changed s.1 plain.1 in cc e
      ],
      λ t. elim t.key.key.listed [
        | inl s ↦ omega (arith, s.1.2.2)
        | inr s ↦ omega (arith, s.1.2.2)
      ],
      λ t. t.refused (record {
        trusted_by = by_both_lines;
        unrevoked = refl;
        accepted = refl;
        good = record {
          fields = record { for_hosts = refl; no_options = refl; key_id = id; principals = two_names };
          valid = record {
            valid = record { signature = refl; authority = (0, omega arith, refl); time = lit< tt; after = omega arith; before = omega arith };
            allowed = inr (0, omega arith, refl);
          };
        };
      }),
      record {
        refused = λ t. omega (arith, t.good.valid.valid.before);
        unrevoked = refl;
        no_line = unsaid_other both_lines ed25519_key ed25519_key verdict.Trusted verdict.Revoked by_both_lines (λ e. cc e);
        none_hidden = unsaid_other both_lines ed25519_key ed25519_key verdict.Trusted verdict.Unreadable by_both_lines (λ e. cc e);
        key = key_of_fields (record both_lines { time = 200 }) by_itself (inl ((λ e. cc e), both.0)) refl refl id two_names.read refl;
      },
      λ t. never t.key.signed,
      λ t. never (sym t.unrevoked),
      λ t. never (sym t.key.key.unrevoked),
      λ t. t.no_line (inl ((λ e. cc e), inr revoking.0)),
      λ t. t.none_hidden (inl ((λ e. cc e), ((λ either. elim either [ inl a ↦ odd.0.0 a | inr b ↦ odd.1.0 b ]), odd.0.1))),
      λ t. t.key.read.key_id 1 (omega arith) refl,
      λ t. t.key.read.principals.no_zero 1 [] (omega arith) 1 (omega arith) refl,
      λ t. never t.key.read.signer,
    )
