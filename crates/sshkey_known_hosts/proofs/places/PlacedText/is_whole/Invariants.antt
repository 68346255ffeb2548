use Rattle.std.proofs.Common.{◌≡◌, ◌+◌, length}
use Rattle.sshkey_known_hosts.specs.HeldLines.{total_length}
use Rattle.sshkey_known_hosts.proofs.places.PlacedText.is_whole.Given as goal

-- what is left of both
abbrev pub invariant-places : goal.invariant-places
invariant-places l = total_length l.places + length l.self.text.now ≡ total_length l.self.places.now + l.left

abbrev pub decreases-places : goal.decreases-places
decreases-places l = length l.places
