use Rattle.std.proofs.Common.{◌≡◌, ◌++◌, List, ℕ, length}
use Rattle.sshkey_entries.specs.Answers.{AreEntries}
use Rattle.sshkey_revoked_keys.specs.RevokedKeys.{RevokesKey, revoked_lines}
use Rattle.sshkey_revoked_keys.proofs.line.read_lines.Given as goal

-- the lines that were read, and those that are left
abbrev pub invariant-lines : goal.invariant-lines
invariant-lines l = (before : List (List ℕ)) × (revoked_lines l.text ≡ before ++ revoked_lines l.rest) × AreEntries (λ key. key.items) RevokesKey before l.keys.items

abbrev pub decreases-lines : goal.decreases-lines
decreases-lines l = length l.rest
