use Rattle.std.proofs.Common.{◌≡◌, ◌<◌, ◌≤◌, ℕ, length, slice_index, true}
use Rattle.sshkey_entries.specs.Fields.{is_white}
use Rattle.sshkey_entries.proofs.blanks.word_len.Given as goal

-- all that stands behind is white space
abbrev pub invariant-white : goal.invariant-white
invariant-white l = (l.len ≤ length l.field) × ((k : ℕ) → l.len ≤ k → k < length l.field → is_white (slice_index l.field k) ≡ true)

abbrev pub decreases-white : goal.decreases-white
decreases-white l = l.len
