use Rattle.std.proofs.Common.{refl, arith}
use Rattle.base64.specs.Rfc4648.{encode_symbols}
use Rattle.sshkey_model.specs.Parts.{flat}
use Rattle.sshkey_known_hosts.proofs.WrittenExamples.{host_back, tab_read}
use Rattle.sshkey_known_hosts.proofs.examples.written_lines.Goals as goal

pub returns : goal.returns
unfolding encode_symbols flat
returns c = (
  host_back,
  λ back. tab_read back.read_openssh,
  λ back. back.one_line.0 1 (omega arith) refl,
)
