use Rattle.std.proofs.Common.{◌↔◌, length}
use denote.Shadow.{shadow}
use denote.Text.{Utf8}
use Rattle.sshkey_matching.specs.SourceAddresses.{Covers, pieces, IsNetworks, Has}
use Rattle.sshkey_matching.proofs.FromLists.{IsFoundOrIn}
use Rattle.sshkey_matching.proofs.source_address.has_address.Given as goal

-- what was found, and what is left
abbrev pub invariant-pieces : goal.invariant-pieces
invariant-pieces l = record {
  form : IsNetworks l.list ↔ IsNetworks l.rest;
  any : Has l.list l.address ↔ IsFoundOrIn (λ piece. Covers piece l.address) l.has (pieces l.rest);
  text : shadow (Utf8 l.rest);
}

abbrev pub decreases-pieces : goal.decreases-pieces
decreases-pieces l = length (pieces l.rest)
