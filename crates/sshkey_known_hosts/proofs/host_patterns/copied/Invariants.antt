use Rattle.std.proofs.Common.{◌≡◌, take}
use Rattle.sshkey_known_hosts.proofs.host_patterns.copied.Given as goal

-- the copies so far
abbrev pub invariant-loop-text : goal.invariant-loop-text
invariant-loop-text l = l.copies.items ≡ take l.text-index l.texts
