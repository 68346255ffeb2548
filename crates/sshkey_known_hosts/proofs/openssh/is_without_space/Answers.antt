use Rattle.std.proofs.Common.{lit<}
use Rattle.sshkey_model.specs.Lines.{space}
use Rattle.sshkey_known_hosts.proofs.HostLines.{not_contained}
use Rattle.sshkey_known_hosts.proofs.openssh.is_without_space.Goals as goal

pub returns : goal.returns
returns c = not_contained space (lit< tt) c.args.text.now c.contains.result c.contains.ensures.cases
