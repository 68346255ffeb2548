use Rattle.std.proofs.Common.{◌∷◌, map, take}
use Rattle.std.specs.Fmt.{HasWrittenStyled, IsFlush}
use Rattle.sshkey_fingerprints.specs.RandomArt.{symbol}
use Rattle.sshkey_fingerprints.proofs.random_art.write_row.Given as goal

abbrev pub invariant-loop-shade : goal.invariant-loop-shade
invariant-loop-shade g l = IsFlush l.fn.f → HasWrittenStyled g.W.Write.write_str_gives l.fn.f (124 ∷ map symbol (take l.shade-index l.shades)) l.f
