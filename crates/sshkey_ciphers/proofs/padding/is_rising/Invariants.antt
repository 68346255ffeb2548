use Rattle.std.proofs.Common.{◌≡◌, ◌<◌, ℕ, suc, get_or}
use Rattle.sshkey_ciphers.proofs.padding.is_rising.Given as goal

-- those that were passed are 1, 2, 3 and so on
abbrev pub invariant-loop-index : goal.invariant-loop-index
invariant-loop-index l = (k : ℕ) → k < l.index → get_or l.bytes k 0 ≡ suc k
