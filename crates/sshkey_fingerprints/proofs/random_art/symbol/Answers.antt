use Rattle.std.proofs.Common.{ap, arith, ◌∙◌}
use Rattle.sshkey_fingerprints.specs.RandomArt.{symbol}
use Rattle.sshkey_fingerprints.proofs.random_art.symbol.Goals as goal

pub returns-in-Some : goal.returns-in-Some
unfolding symbol
returns-in-Some c = c.in-Some.ensures.lookup.4 (omega arith) 32 ∙ ap symbol c.from.ensures

pub returns-in-None : goal.returns-in-None
unfolding symbol
returns-in-None c = c.in-None.ensures.lookup.4 (omega arith) 32 ∙ ap symbol c.from.ensures
