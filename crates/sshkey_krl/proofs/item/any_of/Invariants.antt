use Rattle.std.proofs.Common.{length}
use Rattle.sshkey_krl.specs.Query.{query_of}
use Rattle.sshkey_krl.proofs.Asking.{Walks}
use Rattle.sshkey_krl.proofs.item.any_of.Given as goal

abbrev pub invariant-items : goal.invariant-items
invariant-items g l = Walks g.I.Item.format (g.I.Item.says (query_of l.fn.query)) l.fn.bytes l.found l.rest

abbrev pub decreases-items : goal.decreases-items
decreases-items g l = length l.rest
