use Rattle.std.proofs.Common.{◌≡◌, ◌<◌, ℕ, false}
use Rattle.sshkey_authorized_keys.specs.Options.{is_escape}
use Rattle.sshkey_authorized_keys.proofs.option_syntax.escape_place.Given as goal

-- none was passed over
abbrev pub invariant-loop-index : goal.invariant-loop-index
invariant-loop-index l = (k : ℕ) → k < l.index → is_escape l.text k ≡ false
