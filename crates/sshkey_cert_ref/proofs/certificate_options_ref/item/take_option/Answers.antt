use Rattle.std.proofs.Common.{refl, sym, ◌∙◌}
use Rattle.sshkey_model.specs.Options.{spelled_option_format}
use Rattle.sshkey_model.specs.Reading.{FormatEncoding, after_at}
use Rattle.sshkey_cert_ref.proofs.certificate_options_ref.item.take_option.Goals as goal

pub returns-then-not-may_follow : goal.returns-then-not-may_follow
unfolding spelled_option_format after_at
returns-then-not-may_follow c = record { met = FormatEncoding; is = rw (c.in_ok-name.ensures.gives.value, c.in_ok-value.ensures.value, sym c.may_follow.ensures ∙ c.if-not-may_follow.true) refl; same = λ _. refl }

pub returns : goal.returns
unfolding spelled_option_format after_at
returns c = record { value = rw (c.in_ok-name.ensures.gives.value, c.in_ok-value.ensures.value, sym c.may_follow.ensures ∙ c.if-not-may_follow.false) refl; missing = refl; outer = refl }
