use Rattle.sshkey_entries.specs.OptionItems.{MaySay, Says}
use Rattle.sshkey_entries.specs.Answers.{Tells}
use Rattle.sshkey_entries.specs.declared.reading.Reading.{Reading}
use Rattle.sshkey_authorized_keys.proofs.openssh_options.read_options.Given as goal

-- what the options that are left say all of them say
abbrev pub invariant-loop-option : goal.invariant-loop-option
invariant-loop-option g l =
    (goal.iterator-loop-option g).can_next l.option-iterator ×
    (goal.iterator-loop-option g).is_finite l.option-iterator ×
    ((r : Reading g.row.T.Denot) → Tells g.T.AddOptions.means (Says g.T.AddOptions.Adds (g.T.AddOptions.means l.said) l.option-iterator) (MaySay g.T.AddOptions.Adds g.T.AddOptions.MayBe (g.T.AddOptions.means l.said) l.option-iterator) r
    → Tells g.T.AddOptions.means (Says g.T.AddOptions.Adds (g.T.AddOptions.means l.fn.said) l.options) (MaySay g.T.AddOptions.Adds g.T.AddOptions.MayBe (g.T.AddOptions.means l.fn.said) l.options) r)
