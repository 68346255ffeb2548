use Rattle.std.proofs.Common.{◌<◌, length, sym, ◌∙◌, arith, refl}
use Rattle.std.proofs.lemmas.Bool.{eqb-true, eqb-false}
use Rattle.std.proofs.lemmas.Result.{err_from_is_err_and}
use Rattle.sshkey_cert_ref.proofs.OptionSteps.{value_empty, value_refused, value_taken}
use Rattle.sshkey_cert_ref.proofs.certificate_options_ref.item.value_from.Goals as goal

pub returns-then-is_empty : goal.returns-then-is_empty
returns-then-is_empty c = value_empty c.args.string.now _ (eqb-true (length c.args.string.now) 0 (sym c.is_empty.ensures ∙ c.if-is_empty.true)) refl

pub returns-in_err-text : goal.returns-in_err-text
returns-in_err-text c =
    let p = err_from_is_err_and c.from_residual.result c.from_residual.ensures.1 in
    let some : 0 < length c.args.string.now = omega (arith, eqb-false (length c.args.string.now) 0 (sym c.is_empty.ensures ∙ c.if-is_empty.false)) in
    rw (p.1, p.2) (value_refused c.args.string.now _ some c.in_err-text.ensures)

pub returns : goal.returns
returns c =
    let some : 0 < length c.args.string.now = omega (arith, eqb-false (length c.args.string.now) 0 (sym c.is_empty.ensures ∙ c.if-is_empty.false)) in
    value_taken c.args.string.now c.in_ok-text.text _ some c.in_ok-text.ensures c.is_empty-2.ensures
