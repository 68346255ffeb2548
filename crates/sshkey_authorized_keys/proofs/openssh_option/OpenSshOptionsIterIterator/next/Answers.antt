use Rattle.std.proofs.Common.{ap, ◌∙◌}
use Rattle.sshkey_entries.specs.OptionItems.{without_commas}
use Rattle.sshkey_authorized_keys.proofs.OptionCuts.{one_less, nothing_left, none_there}
use Rattle.sshkey_authorized_keys.proofs.openssh_option.OpenSshOptionsIterIterator.next.Goals as goal

pub returns-in-Some-clause-goes : goal.returns-in-Some-clause-goes
returns-in-Some-clause-goes c = one_less _ _ _ c.skip_commas-text.result.now _ (c.skip_commas-text.ensures ∙ ap without_commas c.self.view_is) c.in-Some.ensures

pub returns-in-None-clause-steps : goal.returns-in-None-clause-steps
returns-in-None-clause-steps c = none_there _ c.skip_commas-text.result.now _ (c.skip_commas-text.ensures ∙ ap without_commas c.self.view_is) c.is_empty.ensures c.if-is_empty.false c.in-None.ensures

pub returns-in-None-clause-goes : goal.returns-in-None-clause-goes
returns-in-None-clause-goes c = nothing_left _ _ (none_there _ c.skip_commas-text.result.now _ (c.skip_commas-text.ensures ∙ ap without_commas c.self.view_is) c.is_empty.ensures c.if-is_empty.false c.in-None.ensures).1
