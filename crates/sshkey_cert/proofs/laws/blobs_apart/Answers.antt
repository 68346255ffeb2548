use Rattle.sshkey_model.proofs.LinesApart.{blobs_apart}
use Rattle.sshkey_cert.proofs.laws.blobs_apart.Goals as goal

pub returns : goal.returns
returns c = blobs_apart
