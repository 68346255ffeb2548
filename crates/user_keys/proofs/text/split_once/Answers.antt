use Rattle.std.proofs.Common.{◌+◌, refl}
use Rattle.std.proofs.lemmas.List.{take_rest}
use Rattle.user_keys.proofs.PrincipalLines.{cut_at, uncut}
use Rattle.user_keys.proofs.text.split_once.Goals as goal

pub returns-in-Some : goal.returns-in-Some
returns-in-Some c = cut_at c.args.divider c.args.text.now c.in-Some.place _ _ c.in-Some.ensures refl (take_rest c.args.text.now (c.in-Some.place + 1))

pub returns-in-None : goal.returns-in-None
returns-in-None c = uncut c.args.divider c.args.text.now c.in-None.ensures
