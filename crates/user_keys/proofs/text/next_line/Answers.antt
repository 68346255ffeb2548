use Rattle.std.proofs.Common.{◌∙◌, arith, length, sym}
use Rattle.std.proofs.lemmas.Bool.{eqb-false}
use Rattle.user_keys.proofs.PrincipalLines.{first_line, last_line, next_line, only_line}
use Rattle.user_keys.proofs.text.next_line.Goals as goal

pub returns-in-Some : goal.returns-in-Some
returns-in-Some c =
    let first = first_line c.args.text.now c.in-Some.line c.in-Some.rest c.in-Some.ensures in
    (next_line c.args.text.now c.in-Some.line.now c.in-Some.rest.now c.without_return.result.now first.0 c.without_return.ensures, first.1)

pub returns-in-None : goal.returns-in-None
returns-in-None c =
    let some = sym c.is_empty.ensures ∙ c.if-is_empty.false in
    (last_line c.args.text.now some (only_line c.args.text.now c.in-None.ensures), omega (arith, eqb-false (length c.args.text.now) 0 some))
