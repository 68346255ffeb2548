use Rattle.std.proofs.Common.{List}
use Rattle.sshkey_entries.specs.OptionItems.{KeyOption, HasKeyOptions}
use Rattle.sshkey_authorized_keys.specs.Options.{FindsNamed}
use Rattle.sshkey_authorized_keys.proofs.OptionCuts.{After}
use Rattle.sshkey_authorized_keys.proofs.openssh_options.find_option.Given as goal

-- what was read, what was found in it, and that the rest is options where all of it is
abbrev pub invariant-loop-option : goal.invariant-loop-option
invariant-loop-option l =
    goal.iterator-loop-option.can_next l.option-iterator ×
    goal.iterator-loop-option.is_finite l.option-iterator ×
    ((before : List KeyOption) × After l.text before l.option-iterator × FindsNamed l.name before l.found) ×
    (HasKeyOptions l.text → HasKeyOptions l.option-iterator)
