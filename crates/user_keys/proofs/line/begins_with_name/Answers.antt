use Rattle.std.proofs.Common.{subst, sym}
use Rattle.sshkey_keys.specs.Keys.{key_of}
use Rattle.user_keys.specs.Lines.{IsNameFor}
use Rattle.user_keys.proofs.Lines.{first_field}
use Rattle.user_keys.proofs.line.begins_with_name.Goals as goal

pub returns : goal.returns
returns c =
    let is = first_field c.args.text.now c.split_blank.result.0.now c.split_blank.result.1.now c.split_blank.ensures in (
      λ yes. subst (IsNameFor (key_of c.args.key.now)) is (c.is_name_for.ensures.0 yes),
      λ begins. c.is_name_for.ensures.1 (subst (IsNameFor (key_of c.args.key.now)) (sym is) begins),
    )
