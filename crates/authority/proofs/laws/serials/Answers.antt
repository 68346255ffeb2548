use Rattle.authority.proofs.Histories.{joined, positive, rising}
use Rattle.authority.proofs.laws.serials.Goals as goal

pub returns-clause-joined : goal.returns-clause-joined
returns-clause-joined c = joined

pub returns-clause-rising : goal.returns-clause-rising
returns-clause-rising c = rising

pub returns-clause-positive : goal.returns-clause-positive
returns-clause-positive c = positive
