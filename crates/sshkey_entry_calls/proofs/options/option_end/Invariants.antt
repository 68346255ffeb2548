use Rattle.std.proofs.Common.{◌≡◌}
use Rattle.sshkey_entries.specs.Fields.{is_inside}
use Rattle.sshkey_entry_calls.proofs.OptionPlaces.{NoEndBefore}
use Rattle.sshkey_entry_calls.proofs.options.option_end.Given as goal

-- the option did not end before
abbrev pub invariant-loop-place : goal.invariant-loop-place
invariant-loop-place l = record {
  inside : l.is_inside ≡ is_inside l.bytes l.place;
  none : NoEndBefore l.bytes l.place;
}
