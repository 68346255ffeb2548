use Rattle.std.proofs.Common.{◌+◌, refl}
use Rattle.std.proofs.lemmas.List.{take_rest}
use Rattle.allowed_signers.proofs.Fronts.{no_quote, quote_cut}
use Rattle.allowed_signers.proofs.line.split_quote.Goals as goal

pub returns-in-Some : goal.returns-in-Some
returns-in-Some c = quote_cut c.args.text.now _ _ c.in-Some.end c.in-Some.ensures refl (take_rest c.args.text.now (c.in-Some.end + 1))

pub returns-in-None : goal.returns-in-None
returns-in-None c = no_quote c.args.text.now c.in-None.ensures
