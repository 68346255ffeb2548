use Rattle.std.proofs.Common.{◌≡◌, [], true, codes, inr, refl, arith, lit<}
use Rattle.std.proofs.lemmas.List.Elements.{All-cons, All-nil}
use Rattle.std.specs.Net.Addr.{ipv4_bits, ipv6_bits}
use Rattle.std.specs.Net.Reader.{read_ipv4, read_ipv6, read_number, read_octet, read_segment, read_segments}
use Rattle.sshkey_matching.proofs.AddressTests.{decides_networks}
use Rattle.sshkey_cert.specs.declared.certificate.refusal.CertificateRefusal.TheVariants.{Principal, Window}
use Rattle.sshkey_model.proofs.Refusals.{fingerprints_decided, found}
use Rattle.sshkey_model.specs.CertificateExamples.{authority}
use Rattle.sshkey_model.specs.Fingerprints.{fingerprint, same_fingerprint}
use Rattle.sshkey_model.specs.Names.{Sha256}
use Rattle.sshkey_model.specs.Refusals.{has_trusted_authority}
use Rattle.login_policy.specs.Examples.{fields, listed, login, of_fields, option}
use Rattle.login_policy.specs.KnownOptions.{Addresses, IsKnownOption, source_address}
use Rattle.login_policy.specs.Refusals.{FromElsewhere, NotSigned, NotValid}
use Rattle.login_policy.proofs.ExampleLemmas.{right, two_names}
use Rattle.login_policy.proofs.examples.order.Goals as goal

trusted : has_trusted_authority login.authorities (of_fields fields) ≡ true
trusted = found same_fingerprint fingerprints_decided (fingerprint Sha256 authority) login.authorities (0, omega arith, refl)

network : IsKnownOption (option source_address (codes "10.0.0.0/8"))
unfolding ipv4_bits ipv6_bits read_ipv4 read_ipv6 read_number read_octet read_segment read_segments
network = Addresses refl (record { networks = (decides_networks (codes "10.0.0.0/8")).0 refl })

pub returns : goal.returns
returns c =
    let all = right login.user fields.valid_principals 200 [] (λ e. cc) (λ e. cc) two_names (All-nil IsKnownOption) in
    let carol = right (codes "carol") fields.valid_principals 200 [] (λ e. cc) (λ e. cc) two_names (All-nil IsKnownOption) in
    let some = right login.user fields.valid_principals 200 listed.critical_options (λ e. cc) (λ e. cc) two_names (All-cons IsKnownOption (option source_address (codes "10.0.0.0/8")) [] network (All-nil IsKnownOption)) in (
      inr (all, NotSigned refl (rw trusted refl) tt refl),
      inr (all, NotValid trusted refl Window (rw trusted refl)),
      inr (all, NotValid trusted refl Window (rw trusted refl)),
      inr (carol, NotValid trusted refl Principal (rw trusted refl)),
      inr (some, FromElsewhere refl (rw trusted refl) (λ never. never)),
    )
