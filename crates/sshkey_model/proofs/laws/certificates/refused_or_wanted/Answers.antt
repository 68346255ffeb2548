use Rattle.sshkey_model.proofs.Refusals.{none_where_wanted}
use Rattle.sshkey_model.proofs.laws.certificates.refused_or_wanted.Goals as goal

pub returns : goal.returns
returns c = none_where_wanted
