use Rattle.std.proofs.Common.{◌≡◌, ◌<◌, ℕ, slice_index, false}
use Rattle.sshkey_entries.specs.Fields.{is_white}
use Rattle.user_keys.specs.Spellings.{IsUnspaced}
use Rattle.user_keys.proofs.marks.is_unspaced.Given as goal

-- none was found among the bytes so far, or one stands in the text
abbrev pub invariant-loop-byte : goal.invariant-loop-byte
invariant-loop-byte l = (l.found ≡ false → (k : ℕ) → k < l.byte-index → is_white (slice_index l.text k) ≡ false) × (IsUnspaced l.text → l.found ≡ false)
