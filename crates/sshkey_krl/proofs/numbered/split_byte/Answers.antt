use Rattle.std.proofs.Common.{refl}
use Rattle.std.proofs.lemmas.Result.{err_from_is_err_and}
use Rattle.std.specs.Int.{w8}
use Rattle.sshkey_terms.proofs.SliceFronts.{number_refused, number_is}
use Rattle.sshkey_krl.proofs.numbered.split_byte.Goals as goal

pub returns-in_err-number : goal.returns-in_err-number
returns-in_err-number c =
    let p = err_from_is_err_and c.from_residual.result c.from_residual.ensures.1 in
    let h = c.in_err-number.ensures.gives in
    rw (p.1, p.2, number_refused w8 c.args.bytes.now h.met h.is) (h.same refl)

pub returns : goal.returns
returns c = rw (number_is w8 c.args.bytes.now _ _ c.in_ok-number.ensures.gives.value, c.from_be_bytes.ensures) refl
