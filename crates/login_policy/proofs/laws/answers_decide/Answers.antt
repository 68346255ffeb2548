use Rattle.login_policy.proofs.Pendings.{answers_decide}
use Rattle.login_policy.proofs.laws.answers_decide.Goals as goal

pub returns : goal.returns
returns c = answers_decide
