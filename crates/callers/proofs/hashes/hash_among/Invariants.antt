use Rattle.std.proofs.Common.{◌≡◌, drop}
use Rattle.callers.specs.Answers.{hash_among}
use Rattle.callers.proofs.hashes.hash_among.Given as goal

-- those that are left decide
abbrev pub invariant-loop-hashed : goal.invariant-loop-hashed
invariant-loop-hashed l = hash_among l.salt l.name (drop l.hashed-index l.hashes) ≡ hash_among l.salt l.name l.hashes
