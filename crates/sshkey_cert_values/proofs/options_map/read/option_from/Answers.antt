use Rattle.std.proofs.Common.{refl, sym, ◌∙◌}
use Rattle.std.proofs.lemmas.Result.{err_from_is_err_and}
use Rattle.sshkey_base.specs.Causes.{same_cause}
use Rattle.sshkey_base.proofs.Steps.{refused_first, refused_later}
use Rattle.std.specs.Prelude.{string_bytes}
use Rattle.sshkey_model.specs.Reading.{after_at}
use Rattle.sshkey_cert_values.proofs.OptionReaders.{text_read, name_stopped, value_stopped, order_stopped}
use Rattle.sshkey_cert_values.proofs.options_map.read.option_from.Goals as goal

pub returns-in_err-value-clause-gives : goal.returns-in_err-value-clause-gives
unfolding after_at
returns-in_err-value-clause-gives g c =
    let p = err_from_is_err_and c.from_residual-in_err-value.result c.from_residual-in_err-value.ensures.1 in
    rw (p.1, p.2, same_cause c.in_err-value.field-0.0) (refused_first _ _ _ _ (refused_later _ _ _ _ _ _ _ c.in_ok-name.ensures.gives (refused_first _ _ _ _ c.in_err-value.ensures.gives)))

pub returns-in_err-value-clause-asks : goal.returns-in_err-value-clause-asks
returns-in_err-value-clause-asks g c =
    let p = err_from_is_err_and c.from_residual-in_err-value.result c.from_residual-in_err-value.ensures.1 in
    rw p.1 (λ memory sound. text_read string_bytes _ _ _ c.in_ok-name.ensures.gives)

pub returns-in_err-name-clause-past : goal.returns-in_err-name-clause-past
returns-in_err-name-clause-past g c =
    let p = err_from_is_err_and c.from_residual.result c.from_residual.ensures.1 in
    rw (p.1, p.2, same_cause c.in_err-name.field-0.0) (name_stopped _ _ _ c.in_err-name.ensures.past)

pub returns-in_err-value-clause-past : goal.returns-in_err-value-clause-past
returns-in_err-value-clause-past g c =
    let p = err_from_is_err_and c.from_residual-in_err-value.result c.from_residual-in_err-value.ensures.1 in
    rw (p.1, p.2, same_cause c.in_err-value.field-0.0) (value_stopped _ string_bytes _ _ _ _ c.in_ok-name.ensures.gives c.in_err-value.ensures.past)

pub returns-then-not-may_follow-clause-past : goal.returns-then-not-may_follow-clause-past
returns-then-not-may_follow-clause-past g c = order_stopped _ string_bytes string_bytes _ _ _ _ _ _ refl c.in_ok-name.ensures.gives c.in_ok-value.ensures.gives (rw (← c.as_str.ensures.value) (sym c.may_follow.ensures ∙ c.if-not-may_follow.true))
