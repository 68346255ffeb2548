use Rattle.std.proofs.Math.Dec.{eqb}
use Rattle.std.proofs.lemmas.Bool.Decides.{Decides-eqb}
use Rattle.std.proofs.lemmas.List.Elements.{Decides-contains, contains_decides}
use Rattle.authority.proofs.authority.Authority.is_revoked.Goals as goal

pub returns : goal.returns
returns c = rw c.deref.ensures.value at (Decides-contains c.deref.result.now c.args.serial c.contains.result (contains_decides eqb Decides-eqb c.deref.result.now c.args.serial c.contains.result c.contains.ensures.cases))
