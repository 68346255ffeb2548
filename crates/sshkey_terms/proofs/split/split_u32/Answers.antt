use Rattle.std.proofs.Common.{refl}
use Rattle.std.proofs.lemmas.Result.{err_from_is_err_and}
use Rattle.std.specs.Int.{w32}
use Rattle.sshkey_base.proofs.Lawful.{number32_grammar}
use Rattle.sshkey_base.specs.Causes.{encoding_cause}
use Rattle.sshkey_terms.proofs.SliceFronts.{split_spelled, number_refused, number_is}
use Rattle.sshkey_terms.proofs.split.split_u32.Goals as goal

pub returns-in_err-number-clause-gives : goal.returns-in_err-number-clause-gives
returns-in_err-number-clause-gives c =
    let p = err_from_is_err_and c.from_residual.result c.from_residual.ensures.1 in
    let h = c.in_err-number.ensures.gives in
    rw (p.1, p.2, number_refused w32 c.args.bytes.now h.met h.is) (h.same refl)

pub returns-clause-gives : goal.returns-clause-gives
returns-clause-gives c = rw (number_is w32 c.args.bytes.now _ _ c.in_ok-number.ensures.gives.value, c.from_be_bytes.ensures) refl

pub returns-in_err-number-clause-accepts : goal.returns-in_err-number-clause-accepts
returns-in_err-number-clause-accepts c = split_spelled number32_grammar (λ n. n) encoding_cause c.args.bytes.now c.from_residual.result (returns-in_err-number-clause-gives c)

pub returns-clause-accepts : goal.returns-clause-accepts
returns-clause-accepts c = split_spelled number32_grammar (λ n. n) encoding_cause c.args.bytes.now _ (returns-clause-gives c)
