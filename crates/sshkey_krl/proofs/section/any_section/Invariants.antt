use Rattle.std.proofs.Common.{◌≡◌, length}
use Rattle.sshkey_krl.specs.Query.{query_of, says}
use Rattle.sshkey_krl.specs.Krls.{section_format}
use Rattle.sshkey_krl.proofs.Asking.{Walks}
use Rattle.sshkey_krl.proofs.section.any_section.Given as goal

abbrev pub invariant-sections : goal.invariant-sections
invariant-sections l = (query_of l.prepared ≡ query_of l.fn.query) × Walks section_format (says (query_of l.fn.query)) l.fn.bytes l.found l.rest

abbrev pub decreases-sections : goal.decreases-sections
decreases-sections l = length l.rest
