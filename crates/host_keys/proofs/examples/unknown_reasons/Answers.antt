use Rattle.std.proofs.Common.{[], ◌∷◌, None, true, false, codes, inl, inr, refl}
use Rattle.std.specs.Int.Count.{count_leading_zeros}
use Rattle.sshkey_model.specs.CertificateExamples.{authority}
use Rattle.sshkey_model.specs.KeyExamples.{ed25519_key}
use Rattle.sshkey_model.proofs.LineTests.{lacks}
use Rattle.sshkey_cert.specs.declared.certificate.refusal.CertificateRefusal.TheVariants.{Signature}
use Rattle.sshkey_known_hosts.specs.Examples.{host, line}
use Rattle.sshkey_known_hosts.specs.Hmac.{hmac_sha1}
use Rattle.sshkey_known_hosts.specs.declared.verdict.Verdict.TheVariants as verdict
use Rattle.sshkey_known_hosts.proofs.ExampleLemmas.{said_of_host}
use Rattle.host_keys.specs.Answers.{IsWhyNoCertifiedKey, OtherKey, Unsigned}
use Rattle.host_keys.specs.Examples.{fields, login, of_fields, own_fields}
use Rattle.host_keys.specs.Hosts.{IsRead, IsSaidOfSigned, IsVerdictOfSigned}
use Rattle.host_keys.specs.declared.known_by.KnownBy.TheVariants.{Authority}
use Rattle.host_keys.specs.declared.refusal.HostRefusal.TheVariants as refusal
use Rattle.host_keys.proofs.ExampleLemmas.{by_line_of_key, key_of_fields, never, two_names, unmarked_none}
use Rattle.host_keys.proofs.examples.unknown_reasons.Goals as goal

pub returns : goal.returns
unfolding count_leading_zeros
returns c =
    let plain = said_of_host.0 in
    let says : IsVerdictOfSigned hmac_sha1 host authority ed25519_key (line None host ∷ []) verdict.Unknown = (λ either. elim either [ inl a ↦ plain.1.0 a | inr b ↦ plain.0.0 b ], plain.0.1, unmarked_none) in
    let said : IsSaidOfSigned hmac_sha1 (codes "H.Example") 22 authority ed25519_key (line None host ∷ []) verdict.Unknown = inr (says, says) in
    let read : IsRead (of_fields fields) = record { signer = refl; key_id = lacks 0 (codes "id") refl; principals = two_names.read } in
    let key = key_of_fields login own_fields (inl ((λ e. cc e), plain.0)) refl refl (lacks 0 (codes "id") refl) two_names.read refl in
    let changed : IsWhyNoCertifiedKey login (λ q. true) (λ key. false) (of_fields fields) refusal.Changed = OtherKey read refusal.Changed (refl, inl ((λ e. cc e), plain.1)) in (
      record { first = refusal.Unknown; certificate = (refl, said); key = inr (refl, (refusal.Changed, changed, refl)) },
      record { first = refusal.Unknown; certificate = (refl, by_line_of_key); key = inr (refl, (refusal.Invalid Signature, Unsigned key.read key.key (λ signed. never signed), refl)) },
      changed,
      refl,
      λ e. cc e,
      λ none. none (λ e. cc e) Authority refl,
      λ other. absurd (other refl),
    )
