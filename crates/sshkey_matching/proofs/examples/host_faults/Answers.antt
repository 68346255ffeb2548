use Rattle.std.proofs.Common.{arith, codes, refl}
use Rattle.std.specs.Fmt.{digits}
use Rattle.std.specs.Net.Addr.{ipv4_bits, ipv6_bits}
use Rattle.std.specs.Net.Reader.{read_ipv4, read_ipv6, read_number, read_octet, read_segment, read_segments}
use Rattle.std.specs.Net.Text.{hex, hex_groups_text, ipv6_text}
use Rattle.sshkey_matching.specs.HostExamples.{unasked}
use Rattle.sshkey_matching.proofs.AskedHosts.{each_fault, is_asked}
use Rattle.sshkey_matching.proofs.Tables.{never}
use Rattle.sshkey_matching.proofs.examples.host_faults.Goals as goal

pub returns : goal.returns
unfolding digits hex hex_groups_text ipv4_bits ipv6_text ipv6_bits read_ipv4 read_ipv6 read_number read_octet read_segment read_segments
returns c = (
  each_fault unasked refl,
  refl,
  refl,
  ((λ z. omega (arith, z)), refl),
  refl,
  (λ fault. omega (arith, fault)),
  (λ fault. fault.0 refl),
  (λ fault. cc fault.1),
  (λ fault. fault.0 refl),
  (λ fault. fault.2 (codes "10.1.2.3") (is_asked (codes "10.1.2.3") (codes "10.1.2.3") refl).asked),
  (λ fault. never fault),
)
