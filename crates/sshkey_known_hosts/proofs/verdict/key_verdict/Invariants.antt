use Rattle.std.proofs.Common.{◌≡◌, ◌++◌, List, ℕ}
use Rattle.sshkey_entries.specs.Fields.{filled_lines}
use Rattle.sshkey_entries.specs.HostVerdicts.{known_name}
use Rattle.sshkey_keys.specs.Keys.{key_of}
use Rattle.sshkey_known_hosts.specs.Verdicts.{IsVerdict}
use Rattle.sshkey_known_hosts.proofs.verdict.key_verdict.Given as goal

-- the verdict on the lines that were read, and those that are left
abbrev pub invariant-loop-line : goal.invariant-loop-line
invariant-loop-line g l =
    (goal.iterator-loop-line g).can_next l.line-iterator ×
    (goal.iterator-loop-line g).is_finite l.line-iterator ×
    ((before : List (List ℕ)) × (filled_lines l.text ≡ before ++ l.line-iterator) × IsVerdict (g.H.HostHasher.hmac l.hmac) (known_name l.host l.port) (key_of l.key) before l.found)
