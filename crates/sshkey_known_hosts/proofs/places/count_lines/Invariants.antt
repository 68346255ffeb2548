use Rattle.std.proofs.Common.{◌≡◌, ◌≤◌, ◌+◌, length}
use Rattle.std.specs.Str.Lines.{lines}
use Rattle.sshkey_known_hosts.proofs.places.count_lines.Given as goal

-- the lines that were counted, and those that are left
abbrev pub invariant-lines : goal.invariant-lines
invariant-lines l = (l.count + length (lines l.left) ≡ length (lines l.text)) × (l.count + length l.left ≤ length l.text)

abbrev pub decreases-lines : goal.decreases-lines
decreases-lines l = length l.left
