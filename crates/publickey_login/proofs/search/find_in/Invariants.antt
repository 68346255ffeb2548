use Rattle.std.proofs.Common.{drop, map}
use Rattle.publickey_login.proofs.Searches.{AreLeft, RefusesSoFar}
use Rattle.publickey_login.specs.Values.{sought_of, text_of}
use Rattle.publickey_login.specs.Results.{asked_of}
use Rattle.publickey_login.proofs.search.find_in.Given as goal

-- what the texts that are left say the whole says
abbrev pub invariant-loop-number : goal.invariant-loop-number
invariant-loop-number l = record {
  left : AreLeft (asked_of l.login) (sought_of l.sought) (map text_of l.texts) (map text_of (drop l.number l.texts)) l.number;
  so_far : RefusesSoFar (asked_of l.login) (sought_of l.sought) l.list (map text_of l.texts) (map text_of (drop l.number l.texts)) l.number l.first;
}
