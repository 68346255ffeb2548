use Rattle.std.proofs.Common.{◌≡◌, length, map}
use Rattle.std.specs.Char.{to_ascii_lowercase}
use Rattle.sshkey_known_hosts.specs.HeldNames.{fnv_from, name_hash}
use Rattle.sshkey_known_hosts.proofs.held.name_hash.Given as goal

-- what follows from the bytes that are left is the hash of all
abbrev pub invariant-bytes : goal.invariant-bytes
invariant-bytes l = fnv_from l.hash (map to_ascii_lowercase l.rest) ≡ name_hash l.name

abbrev pub decreases-bytes : goal.decreases-bytes
decreases-bytes l = length l.rest
