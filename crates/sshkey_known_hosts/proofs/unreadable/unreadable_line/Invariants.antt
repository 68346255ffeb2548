use Rattle.std.proofs.Common.{◌≡◌, ◌≤◌, ◌+◌, ◌++◌, List, ℕ, length}
use Rattle.std.specs.List.{Any}
use Rattle.std.specs.Str.Lines.{lines}
use Rattle.sshkey_entries.specs.HostVerdicts.{known_name}
use Rattle.sshkey_known_hosts.specs.Verdicts.{HidesEntryIn}
use Rattle.sshkey_known_hosts.proofs.unreadable.unreadable_line.Given as goal

-- the lines that were counted, none of which hides an entry, and those that are left
abbrev pub invariant-lines : goal.invariant-lines
invariant-lines g l = (before : List (List ℕ)) × (lines l.text ≡ before ++ lines l.left) × ¬ Any (HidesEntryIn (g.H.HostHasher.hmac l.hmac) (known_name l.host l.port)) before × (l.number ≡ length before) × (l.number + length l.left ≤ length l.text)

abbrev pub decreases-lines : goal.decreases-lines
decreases-lines g l = length l.left
