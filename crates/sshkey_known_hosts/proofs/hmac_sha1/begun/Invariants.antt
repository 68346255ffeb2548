use Rattle.std.proofs.Common.{◌≡◌, ◌≤◌, ◌<◌, ℕ, slice_index, length, bit_xor}
use Rattle.sshkey_known_hosts.proofs.hmac_sha1.begun.Given as goal

-- what is filled so far
abbrev pub invariant-loop-place : goal.invariant-loop-place
invariant-loop-place l = (length l.block ≡ 64) × ((i : ℕ) → i < l.place → slice_index l.block i ≡ bit_xor (slice_index l.key i) l.mask) × ((i : ℕ) → l.place ≤ i → i < 64 → slice_index l.block i ≡ l.mask)
