use Rattle.login_policy.proofs.examples.granted.Goals as goal

pub returns : goal.returns
returns c = (
  λ g is. (is.force_command, is.verify_required, is.touch_required, is.serial),
  λ g is. (is.force_command, is.verify_required, is.touch_required),
  λ g is. (is.force_command, is.verify_required, is.touch_required),
  λ g is. is.touch_required,
  λ g is. is.touch_required,
)
