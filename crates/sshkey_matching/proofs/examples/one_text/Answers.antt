use Rattle.std.proofs.Common.{codes, refl}
use Rattle.std.proofs.lemmas.Option.{none-some}
use Rattle.std.specs.Fmt.{digits}
use Rattle.std.specs.Net.Addr.{ipv4_bits, ipv6_bits}
use Rattle.std.specs.Net.Reader.{read_ipv4, read_ipv6, read_number, read_octet, read_segment, read_segments}
use Rattle.std.specs.Net.Text.{hex, hex_groups_text, ipv6_text}
use Rattle.sshkey_matching.specs.AddressExamples.{ipv6}
use Rattle.sshkey_matching.proofs.AskedHosts.{decides_one, is_text_of, was_text_of}
use Rattle.sshkey_matching.proofs.Tables.{never}
use Rattle.sshkey_matching.proofs.TextTests.{address_of}
use Rattle.sshkey_matching.proofs.examples.one_text.Goals as goal

pub returns : goal.returns
unfolding digits hex hex_groups_text ipv4_bits ipv6_text ipv6_bits read_ipv4 read_ipv6 read_number read_octet read_segment read_segments
returns c = (
  (decides_one (ipv6 0 0 0 0)).0 refl,
  (decides_one (ipv6 0 0 0 1)).0 refl,
  (λ one. never ((decides_one (ipv6 0 0 0 2)).1 one)),
  (λ one. never ((decides_one (ipv6 0 0 0xffff 0xffff)).1 one)),
  (decides_one (ipv6 0xfd00 0 0 1)).0 refl,
  is_text_of (codes "0:0::1") (codes "::1") (address_of (codes "0:0::1")) refl refl,
  (λ name is. none-some name (was_text_of (codes "::2") name is)),
  (λ name is. none-some name (was_text_of (codes "127.1") name is)),
)
