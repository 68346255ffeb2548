use Rattle.std.proofs.Common.{sym, ◌∙◌, refl}
use Rattle.sshkey_model.specs.Drafts.{SerialField}
use Rattle.sshkey_cert_builder.proofs.Drafts.{once_taken, once_refused}
use Rattle.sshkey_cert_builder.proofs.builder.Builder.set_serial.Goals as goal

pub returns-then-is_some-clause-step : goal.returns-then-is_some-clause-step
returns-then-is_some-clause-step c = (refl, once_refused SerialField _ _ (sym c.is_some.ensures ∙ c.if-is_some.true))

pub returns-clause-step : goal.returns-clause-step
returns-clause-step c = once_taken SerialField _ _ (sym c.is_some.ensures ∙ c.if-is_some.false)
