use Rattle.std.proofs.Common.{◌≡◌}
use Rattle.sshkey_entries.specs.Fields.{is_inside}
use Rattle.sshkey_authorized_keys.proofs.OptionEnds.{NoEndBefore}
use Rattle.sshkey_authorized_keys.proofs.openssh.options_end.Given as goal

-- options did not end before
abbrev pub invariant-loop-index : goal.invariant-loop-index
invariant-loop-index l = record {
  inside : l.inside ≡ is_inside l.text l.index;
  none : NoEndBefore l.text l.index;
}
