use Rattle.std.proofs.Common.{[], codes, refl, arith, lit<}
use Rattle.std.proofs.lemmas.List.Elements.{All-cons, All-nil}
use Rattle.std.specs.Net.Addr.{ipv4_bits, ipv6_bits}
use Rattle.std.specs.Net.Reader.{read_ipv4, read_ipv6, read_number, read_octet, read_segment, read_segments}
use Rattle.sshkey_matching.proofs.AddressTests.{decides_from, decides_networks}
use Rattle.login_policy.specs.Examples.{at, fields, listed, login, option}
use Rattle.login_policy.specs.KnownOptions.{Addresses, IsKnownOption, source_address}
use Rattle.login_policy.specs.declared.client.Client.TheVariants.{LeftToCaller}
use Rattle.login_policy.proofs.ExampleLemmas.{let_in, never, no_networks, right, two_names, valid}
use Rattle.login_policy.proofs.examples.clients.Goals as goal

network : IsKnownOption (option source_address (codes "10.0.0.0/8"))
unfolding ipv4_bits ipv6_bits read_ipv4 read_ipv6 read_number read_octet read_segment read_segments
network = Addresses refl (record { networks = (decides_networks (codes "10.0.0.0/8")).0 refl })

pub returns : goal.returns
unfolding ipv4_bits ipv6_bits read_ipv4 read_ipv6 read_number read_octet read_segment read_segments
returns c =
    let all = right login.user fields.valid_principals 200 [] (λ e. cc) (λ e. cc) two_names (All-nil IsKnownOption) in
    let some = right login.user fields.valid_principals 200 listed.critical_options (λ e. cc) (λ e. cc) two_names (All-cons IsKnownOption (option source_address (codes "10.0.0.0/8")) [] network (All-nil IsKnownOption)) in
    let now = valid fields.valid_principals 200 100 [] (omega arith) (omega arith) (lit< tt) in
    let then = valid fields.valid_principals 200 100 listed.critical_options (omega arith) (omega arith) (lit< tt) in (
      let_in (record login { client = at 11 }) fields all (0, omega arith, refl) refl now tt,
      let_in (record login { client = LeftToCaller }) fields all (0, omega arith, refl) refl now tt,
      λ l. l.from,
      let_in (record login { client = LeftToCaller }) listed some (0, omega arith, refl) refl then tt,
      λ l. no_networks [] (λ n. never ((decides_networks []).1 n)) (l.fields.known 0 (option source_address []) (omega arith)),
      let_in (record login { client = at 10 }) listed some (0, omega arith, refl) refl then ((decides_networks (codes "10.0.0.0/8")).0 refl, (decides_from (codes "10.0.0.0/8") _).0 refl),
      λ l. never ((decides_from (codes "10.0.0.0/8") _).1 l.from.1),
    )
