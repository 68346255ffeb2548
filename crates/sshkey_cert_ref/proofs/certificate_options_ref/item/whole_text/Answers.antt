use Rattle.std.proofs.lemmas.Result.{err_from_is_err_and}
use Rattle.std.proofs.Common.{refl}
use Rattle.sshkey_cert_ref.proofs.OptionSteps.{whole_trails, whole_taken}
use Rattle.sshkey_cert_ref.proofs.certificate_options_ref.item.whole_text.Goals as goal

pub returns-in_err-text : goal.returns-in_err-text
returns-in_err-text c =
    let p = err_from_is_err_and c.from_residual.result c.from_residual.ensures.1 in
    let h = c.in_err-text.ensures.gives in
    rw (p.1, p.2, h.is) (h.same refl)

pub returns-then-not-is_empty : goal.returns-then-not-is_empty
returns-then-not-is_empty c = whole_trails c.args.bytes.now _ c.in_ok-text.text c.in_ok-text.ensures.gives _ c.is_empty.ensures c.if-not-is_empty.true

pub returns : goal.returns
returns c = whole_taken c.args.bytes.now _ c.in_ok-text.text c.in_ok-text.ensures.gives _ c.is_empty.ensures c.if-not-is_empty.false
