use Rattle.std.proofs.Common.{◌≡◌, ◌<◌, ℕ, false, slice_index}
use Rattle.sshkey_entries.specs.Items.{is_quoted, is_divider}
use Rattle.sshkey_authorized_keys.proofs.config_opts.first_divider.Given as goal

-- no divider was passed over
abbrev pub invariant-loop-index : goal.invariant-loop-index
invariant-loop-index l = record {
  quoted : l.quoted ≡ is_quoted l.text l.index;
  none : (k : ℕ) → k < l.index → is_divider l.text (k, slice_index l.text k) ≡ false;
}
