use Rattle.sshkey_matching.proofs.Seen.{comes}
use Rattle.sshkey_matching.proofs.source_address.source_address_allows.Goals as goal

pub returns-in-Some : goal.returns-in-Some
returns-in-Some c = (c.in-Some.ensures.0, comes c.args.list.now c.args.address c.seen-seen.result c.in-Some.has c.is_link_local.result c.is_but_not.result c.seen-seen.ensures c.in-Some.ensures.1 c.is_link_local.ensures c.is_but_not.ensures)
