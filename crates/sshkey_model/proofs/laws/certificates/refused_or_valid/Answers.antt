use Rattle.sshkey_model.proofs.Refusals.{none_where_valid}
use Rattle.sshkey_model.proofs.laws.certificates.refused_or_valid.Goals as goal

pub returns : goal.returns
returns c = none_where_valid
