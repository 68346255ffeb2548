use Rattle.std.proofs.Common.{codes, None, inr}
use Rattle.std.specs.Net.Addr.{ipv4_bits, ipv6_bits}
use Rattle.std.specs.Net.Reader.{read_ipv4, read_ipv6, read_number, read_octet, read_segment, read_segments}
use Rattle.std.specs.Fmt.{digits}
use Rattle.std.specs.Net.Text.{hex, hex_groups_text, ip_text, ipv6_text}
use Rattle.sshkey_matching.specs.AddressExamples.{ipv6, mapped}
use Rattle.sshkey_matching.proofs.AddressTests.{decided, is_seen_as, seen_of}
use Rattle.sshkey_matching.proofs.examples.seen.Goals as goal

pub returns : goal.returns
unfolding digits hex hex_groups_text ipv4_bits ipv6_text ipv6_bits read_ipv4 read_ipv6 read_number read_octet read_segment read_segments
returns c = (
  inr (seen_of mapped, is_seen_as mapped, decided (codes "10.1.2.?") None (ip_text (seen_of mapped))),
  inr (seen_of mapped, is_seen_as mapped, decided (codes "::ffff:*") None (ip_text (seen_of mapped))),
  inr (ipv6 0xfe80 0 0 1, is_seen_as (ipv6 0xfe80 0 0 1), decided (codes "*") None (ip_text (ipv6 0xfe80 0 0 1))),
)
