use Rattle.std.proofs.Common.{codes, refl}
use Rattle.std.specs.Fmt.{digits}
use Rattle.std.specs.Net.Addr.{ipv4_bits, ipv6_bits}
use Rattle.std.specs.Net.Reader.{read_ipv4, read_ipv6, read_number, read_octet, read_segment, read_segments}
use Rattle.std.specs.Net.Text.{hex, hex_groups_text, ipv6_text}
use Rattle.sshkey_matching.specs.HostExamples.{names}
use Rattle.sshkey_matching.proofs.AskedHosts.{each_asked, not_asked}
use Rattle.sshkey_matching.proofs.examples.asked_names.Goals as goal

pub returns : goal.returns
unfolding digits hex hex_groups_text ipv4_bits ipv6_text ipv6_bits read_ipv4 read_ipv6 read_number read_octet read_segment read_segments
returns c = (
  each_asked names refl,
  (λ is. is.some_port refl),
  (λ is. is.some_host refl),
  (λ is. not_asked (codes "FD00:0::1") (codes "fd00::1") (codes "FD00:0::1") 22 refl refl is),
  (λ is. not_asked (codes "Host") (codes "Host") (codes "host") 22 refl refl is),
)
