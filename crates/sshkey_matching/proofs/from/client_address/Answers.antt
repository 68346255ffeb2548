use Rattle.std.proofs.Common.{sym, subst, ◌∙◌}
use Rattle.std.proofs.NetLemmas.Theorems.{IsIpText_unique}
use Rattle.sshkey_matching.specs.FromLists.{IsSeen}
use Rattle.sshkey_matching.proofs.from.client_address.Goals as goal

pub returns-then-not-is_seen : goal.returns-then-not-is_seen
returns-then-not-is_seen c = λ a h. cc (sym c.if-not-is_seen.true ∙ c.is_seen.ensures.1 (subst IsSeen (IsIpText_unique c.args.text.now a c.in-Ok.ip h.0 c.in-Ok.ensures.value) h.1))
