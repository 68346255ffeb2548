use Rattle.std.proofs.Common.{ℕ, List, take}
use Rattle.sshkey_entries.specs.HostVerdicts.{known_name, standard_port}
use Rattle.sshkey_known_hosts.specs.HeldLines.{held_lines, lines_of, SaySame}
use Rattle.sshkey_known_hosts.proofs.held.texts_for.Given as goal

-- the texts say the same of both names as the lines so far
abbrev pub invariant-loop-line : goal.invariant-loop-line
invariant-loop-line l = (hmac : List ℕ → List ℕ → List ℕ) → SaySame hmac (known_name l.host l.port) (held_lines (take l.line-index l.held)) (lines_of l.texts.items) × SaySame hmac (known_name l.host standard_port) (held_lines (take l.line-index l.held)) (lines_of l.texts.items)
