use Rattle.std.proofs.Common.{◌≡◌, take}
use Rattle.std.specs.List.{count_by}
use Rattle.user_keys.specs.Principals.{is_feed}
use Rattle.user_keys.proofs.skip.count_few.Given as goal

-- those so far
abbrev pub invariant-loop-byte : goal.invariant-loop-byte
invariant-loop-byte l = l.count ≡ count_by is_feed (take l.byte-index l.text)
