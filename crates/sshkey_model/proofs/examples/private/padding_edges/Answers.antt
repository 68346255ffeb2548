use Rattle.sshkey_model.proofs.PrivateExamples.{padding_edges}
use Rattle.sshkey_model.proofs.examples.private.padding_edges.Goals as goal

pub returns : goal.returns
returns c = padding_edges
