use Rattle.std.proofs.Common.{◌≡◌, ◌<◌, ℕ, false}
use Rattle.sshkey_entries.specs.Fields.{is_plain_quote}
use Rattle.sshkey_authorized_keys.proofs.option_syntax.quote_end.Given as goal

-- none was passed over
abbrev pub invariant-loop-place : goal.invariant-loop-place
invariant-loop-place l = (k : ℕ) → k < l.place → is_plain_quote l.text k ≡ false
