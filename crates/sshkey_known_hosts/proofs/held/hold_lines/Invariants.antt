use Rattle.std.proofs.Common.{◌≡◌, ◌++◌, length}
use Rattle.sshkey_entries.specs.Fields.{filled_lines}
use Rattle.sshkey_known_hosts.specs.HeldLines.{held_lines}
use Rattle.sshkey_known_hosts.proofs.held.hold_lines.Given as goal

-- the lines that are held, and those that are left
abbrev pub invariant-lines : goal.invariant-lines
invariant-lines l = filled_lines l.text ≡ held_lines l.held.items ++ filled_lines l.left

abbrev pub decreases-lines : goal.decreases-lines
decreases-lines l = length l.left
