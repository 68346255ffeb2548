use Rattle.std.proofs.Common.{◌∷◌, ◌++◌, [], Some, subst, refl}
use Rattle.sshkey_authorized_keys.specs.Options.{YieldsOption, key_option_of}
use Rattle.sshkey_authorized_keys.proofs.OptionCuts.{after_one, after_all, some_before, no_options}
use Rattle.sshkey_authorized_keys.proofs.openssh_options.find_option.Goals as goal

pub loop-option-preserved : goal.loop-option-preserved
loop-option-preserved c =
    let was = c.loop-option.invariant.2 in
    let step = subst (λ r. YieldsOption c.loop-option.option-iterator (Some r) c.next.new.self) c.in-Ok.is c.in-Some.ensures.steps in (
      tt,
      tt,
      (was.0 ++ (key_option_of c.in-Ok.option ∷ []), after_one _ c.loop-option.option-iterator _ _ was.0 _ was.1 refl step, c.first_named-found.ensures was.0 was.2),
      λ h. some_before c.loop-option.option-iterator _ _ _ refl step (c.loop-option.invariant.3 h),
    )

pub returns : goal.returns
returns c = let was = c.loop-option.invariant.2 in (was.0, after_all _ c.loop-option.option-iterator was.0 was.1 c.in-None.ensures.steps.0, was.2)

pub returns-in-Err : goal.returns-in-Err
returns-in-Err c =
    let step = subst (λ r. YieldsOption c.loop-option.option-iterator (Some r) c.next.new.self) c.in-Err.is c.in-Some.ensures.steps in
    (step.0, λ h. no_options c.loop-option.option-iterator step.1 step.2 (c.loop-option.invariant.3 h))
