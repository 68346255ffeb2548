use Rattle.std.proofs.Common.{◌≡◌, ◌↔◌, List, length}
use Rattle.std.specs.List.{AllByRecursion, Any}
use Rattle.login_terms.specs.Values.{HostAndPort}
use Rattle.sshkey_c.specs.Grants.{IsFor, IsPlace, permit_strings}
use Rattle.sshkey_c.proofs.forwarding.is_named.Given as goal

-- What is left has some of the places, and one of them is for what is asked exactly if one of all is.
abbrev pub invariant-places : goal.invariant-places
invariant-places l = (all : List HostAndPort) → AllByRecursion IsPlace all → l.bytes ≡ permit_strings all → (left : List HostAndPort) × AllByRecursion IsPlace left × (l.rest ≡ permit_strings left) × (Any (IsFor l.way l.host l.port) all ↔ Any (IsFor l.way l.host l.port) left)

abbrev pub decreases-places : goal.decreases-places
decreases-places l = length l.rest
