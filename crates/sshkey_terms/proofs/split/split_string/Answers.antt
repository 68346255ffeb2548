use Rattle.std.proofs.Common.{refl}
use Rattle.std.proofs.lemmas.Result.{err_from_is_err_and}
use Rattle.sshkey_base.proofs.Lawful.{string_grammar}
use Rattle.sshkey_base.specs.Causes.{encoding_cause}
use Rattle.sshkey_terms.proofs.SliceFronts.{split_spelled, no_length, string_is}
use Rattle.sshkey_terms.proofs.split.split_string.Goals as goal

pub returns-in_err-len-clause-gives : goal.returns-in_err-len-clause-gives
returns-in_err-len-clause-gives c =
    let p = err_from_is_err_and c.from_residual.result c.from_residual.ensures.1 in
    let h = c.in_err-len.ensures.gives in
    rw (p.1, p.2, no_length c.args.bytes.now h.met h.is) (h.same refl)

pub returns-clause-gives : goal.returns-clause-gives
returns-clause-gives c = rw (string_is c.args.bytes.now _ _ c.in_ok-len.ensures.gives.value) c.split_bytes.ensures

pub returns-in_err-len-clause-accepts : goal.returns-in_err-len-clause-accepts
returns-in_err-len-clause-accepts c = split_spelled string_grammar (λ b. b.now) encoding_cause c.args.bytes.now c.from_residual.result (returns-in_err-len-clause-gives c)

pub returns-clause-accepts : goal.returns-clause-accepts
returns-clause-accepts c = split_spelled string_grammar (λ b. b.now) encoding_cause c.args.bytes.now _ (returns-clause-gives c)
