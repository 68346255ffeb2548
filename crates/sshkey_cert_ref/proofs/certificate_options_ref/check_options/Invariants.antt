use Rattle.std.proofs.Common.{length}
use Rattle.sshkey_cert_ref.proofs.OptionSteps.{Walks}
use Rattle.sshkey_cert_ref.proofs.certificate_options_ref.check_options.Given as goal

abbrev pub invariant-reads : goal.invariant-reads
invariant-reads l = Walks l.fn.bytes l.before l.plain l.rest

abbrev pub decreases-reads : goal.decreases-reads
decreases-reads l = length l.rest
