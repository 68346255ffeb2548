use Rattle.std.proofs.Common.{◌≡◌, ◌++◌, List, ℕ}
use Rattle.sshkey_entries.specs.Fields.{filled_lines}
use Rattle.sshkey_entries.specs.HostVerdicts.{known_name}
use Rattle.sshkey_known_hosts.specs.Verdicts.{AreInOrder}
use Rattle.sshkey_known_hosts.proofs.authority.authorities.Given as goal

-- the authorities of the lines that were read, and those that are left
abbrev pub invariant-loop-line : goal.invariant-loop-line
invariant-loop-line g l =
    (goal.iterator-loop-line g).can_next l.line-iterator ×
    (goal.iterator-loop-line g).is_finite l.line-iterator ×
    ((before : List (List ℕ)) × (filled_lines l.text ≡ before ++ l.line-iterator) × AreInOrder (g.H.HostHasher.hmac l.hmac) (known_name l.host l.port) before l.found.items)
