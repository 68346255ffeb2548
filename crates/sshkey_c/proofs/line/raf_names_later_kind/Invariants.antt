use Rattle.std.proofs.Common.{◌≡◌, ◌<◌, ℕ, drop, false}
use Rattle.sshkey_entry_calls.specs.LaterKinds.{begins_with_later_kind}
use Rattle.sshkey_c.proofs.line.raf_names_later_kind.Given as goal

-- no place before names one
abbrev pub invariant-loop-place : goal.invariant-loop-place
invariant-loop-place l = (i : ℕ) → i < l.place → begins_with_later_kind (drop i l.bytes) ≡ false
