use Rattle.std.proofs.Common.{refl}
use Rattle.login_terms.proofs.examples.commands.Goals as goal

pub returns : goal.returns
returns c = (refl, refl, refl, refl, refl, refl)
