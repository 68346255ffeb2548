use Rattle.std.proofs.Common.{◌∙◌, sym}
use Rattle.sshkey_authorized_keys.proofs.Dividers.{none_left}
use Rattle.sshkey_authorized_keys.proofs.config_opts.ConfigOptsIterIterator.next.Goals as goal

pub returns-then-is_empty-clause-steps : goal.returns-then-is_empty-clause-steps
returns-then-is_empty-clause-steps c = let none = sym c.self.view_is ∙ none_left c.self.inside.rest.now c.is_empty.result c.is_empty.ensures c.if-is_empty.true in (none, none)
