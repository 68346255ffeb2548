use Rattle.std.proofs.Common.{arith, sym, subst, ap, length}
use Rattle.std.specs.Str.{IsUtf8}
use Rattle.std.proofs.lemmas.List.{length-take}
use Rattle.sshkey_model.specs.Keys.{normal_key}
use Rattle.sshkey_model.specs.Parts.{flat}
use Rattle.sshkey_public.specs.PublicKeys.{public_of}
use Rattle.sshkey_public.proofs.Filling.{utf8_line}
use Rattle.sshkey_public.proofs.public_key.PublicKey.write_openssh.Goals as goal

pub returns-clause-text : goal.returns-clause-text
returns-clause-text c =
    let begins = c.in_ok-fill_line.ensures.1 in (
      omega (arith, ap length begins.front, begins.len, length-take c.in_ok-fill_line.field-0 c.fill_line.new.out),
      subst IsUtf8 (sym begins.front) (utf8_line _ (flat (normal_key (public_of c.args.self.now))) _ c.algorithm_name-name.utf8 c.comment.utf8),
    )
