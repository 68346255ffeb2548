use Rattle.std.proofs.Common.{ℕ, List, ◌<◌, get_or}
use Rattle.sshkey_public.specs.WrittenLines.{IsOneLine}
use Rattle.sshkey_known_hosts.proofs.host_patterns.are_one_line.Given as goal

-- the texts so far are one line each
abbrev pub invariant-loop-text : goal.invariant-loop-text
invariant-loop-text l = (k : ℕ) (d : List ℕ) → k < l.text-index → IsOneLine (get_or l.texts k d)
