use Rattle.sshkey_c.proofs.Grants.{HasAdded, spelled_permits}
use Rattle.sshkey_c.proofs.grant.add_permits.Given as goal

abbrev pub invariant-loop-permit : goal.invariant-loop-permit
invariant-loop-permit l = HasAdded spelled_permits l.permits l.permit-index l.fn.content.items l.content.items
