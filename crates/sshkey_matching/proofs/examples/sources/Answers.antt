use Rattle.std.proofs.Common.{refl}
use Rattle.std.specs.Net.Addr.{ipv4_bits, ipv6_bits}
use Rattle.std.specs.Net.Reader.{read_ipv4, read_ipv6, read_number, read_octet, read_segment, read_segments}
use Rattle.sshkey_matching.specs.AddressExamples.{others, sources}
use Rattle.sshkey_matching.proofs.Tables.{each_comes, none_comes}
use Rattle.sshkey_matching.proofs.examples.sources.Goals as goal

pub returns : goal.returns
unfolding ipv4_bits ipv6_bits read_ipv4 read_ipv6 read_number read_octet read_segment read_segments
returns c = (each_comes sources refl, none_comes others refl)
