use Rattle.std.proofs.Common.{[]}
use Rattle.sshkey_c.specs.Grants.{IsFor}
use Rattle.sshkey_c.proofs.Places.{nowhere}
use Rattle.sshkey_c.proofs.forwarding.permitted.Goals as goal

pub returns-then-is_named-clause-outside : goal.returns-then-is_named-clause-outside
returns-then-is_named-clause-outside c = λ out same.
    nowhere (IsFor c.args.way c.in-Ok.host.now c.args.port) ((c.is_named.ensures [] tt (c.bytes_in.ensures.outside out)).0 c.if-is_named.true)
