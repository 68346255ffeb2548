use Rattle.std.proofs.Common.{◌≡◌, ◌++◌, take, string_bytes}
use Rattle.std.specs.List.{join_with_byte}
use Rattle.sshkey_known_hosts.proofs.host_patterns.push_joined.Given as goal

-- the patterns so far, joined, after what the text was
abbrev pub invariant-loop-index : goal.invariant-loop-index
invariant-loop-index l = string_bytes l.text ≡ string_bytes l.fn.text ++ join_with_byte 0x2c (take l.index l.patterns)
