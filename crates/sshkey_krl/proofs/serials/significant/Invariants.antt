use Rattle.std.proofs.Common.{◌≡◌, length}
use Rattle.sshkey_krl.specs.Revocation.{significant}
use Rattle.sshkey_krl.proofs.serials.significant.Given as goal

abbrev pub invariant-zeros : goal.invariant-zeros
invariant-zeros l = significant l.rest ≡ significant l.bytes

abbrev pub decreases-zeros : goal.decreases-zeros
decreases-zeros l = length l.rest
