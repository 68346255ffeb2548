use Rattle.std.proofs.Common.{ℕ, List, Option, length}
use Rattle.sshkey_cert_ref.proofs.TextSteps.{Walks}
use Rattle.sshkey_cert_ref.proofs.principals_ref.check_texts.Given as goal

abbrev pub invariant-reads : goal.invariant-reads
invariant-reads l = (before : Option (List ℕ)) × (done : List (List ℕ)) × Walks l.fn.bytes before done l.rest

abbrev pub decreases-reads : goal.decreases-reads
decreases-reads l = length l.rest
