use Rattle.login_policy.proofs.Logins.{allowed, anywhere, nowhere}
use Rattle.login_policy.proofs.options.is_allowed_from.Goals as goal

pub returns-in-At : goal.returns-in-At
returns-in-At c = rw c.in-At.is (allowed c.get-list.result _ c.in-At.address c.may_come_from.result c.get-list.ensures c.may_come_from.ensures)

pub returns-in-Unknown : goal.returns-in-Unknown
returns-in-Unknown c = rw c.in-Unknown.is (nowhere c.get-list.result _ c.is_none.result c.get-list.ensures c.is_none.ensures)

pub returns-in-LeftToCaller : goal.returns-in-LeftToCaller
returns-in-LeftToCaller c = rw c.in-LeftToCaller.is (anywhere _)
