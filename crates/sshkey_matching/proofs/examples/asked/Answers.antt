use Rattle.std.proofs.Common.{true, false, refl}
use Rattle.std.specs.Net.Addr.{ipv4_bits, ipv6_bits}
use Rattle.std.specs.Net.Reader.{read_ipv4, read_ipv6, read_number, read_octet, read_segment, read_segments}
use Rattle.sshkey_matching.specs.AskedExamples.{came, kept_out, let_in, refused}
use Rattle.sshkey_matching.proofs.Tables.{each_comes, none_comes, none_decided}
use Rattle.sshkey_matching.proofs.examples.asked.Goals as goal

pub returns : goal.returns
unfolding ipv4_bits ipv6_bits read_ipv4 read_ipv6 read_number read_octet read_segment read_segments
returns c = (none_decided true refused refl, none_decided false let_in refl, none_comes kept_out refl, each_comes came refl)
