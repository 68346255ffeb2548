use Rattle.std.proofs.Common.{refl, arith}
use Rattle.sshkey_base64.proofs.Symbols.{in_table}
use Rattle.sshkey_base64.specs.declared.groups.TheConstants.{VALUES}
use Rattle.sshkey_base64.proofs.groups.value.Goals as goal

pub returns : goal.returns
returns c = λ lt. in_table VALUES c.args.symbol (omega (arith, c.ranges.symbol.fits)) refl lt
