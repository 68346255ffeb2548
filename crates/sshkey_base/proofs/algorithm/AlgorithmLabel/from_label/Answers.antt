use Rattle.std.proofs.Common.{◌≡◌, sym, ap}
use Rattle.std.proofs.lemmas.Result.{err_from_is_err_and}
use Rattle.sshkey_base.specs.Causes.{encoding_cause}
use Rattle.sshkey_base.specs.Names.{algorithm_of}
use Rattle.sshkey_base.specs.declared.encoding.Error.TheVariants as encoding
use Rattle.sshkey_base.proofs.OtherNames.{other_from, other_asked, not_own, handed_on, looked_up}
use Rattle.sshkey_base.proofs.algorithm.AlgorithmLabel.from_label.Goals as goal

pub returns-in_err-from_text-in-None-clause-gives : goal.returns-in_err-from_text-in-None-clause-gives
returns-in_err-from_text-in-None-clause-gives c = looked_up algorithm_of c.args.name.now _ c.from_residual.result c.from_residual.ensures.1 (sym c.in-None.ensures) c.in_err-from_text-in-None.ensures.gives

pub returns-in_err-from_text-in-None-clause-asks : goal.returns-in_err-from_text-in-None-clause-asks
returns-in_err-from_text-in-None-clause-asks c =
    let p = err_from_is_err_and c.from_residual.result c.from_residual.ensures.1 in
    rw (p.1, p.2) (other_asked c.args.name.now (encoding_cause c.in_err-from_text-in-None.field-0.0) (sym c.in-None.ensures) (λ none.
    let label : c.in_err-from_text-in-None.field-0.0 ≡ encoding.Label = cc (c.in_err-from_text-in-None.ensures.refused none) in
    ap encoding_cause label))

pub returns-in_err-from_text-in-None-clause-refused : goal.returns-in_err-from_text-in-None-clause-refused
returns-in_err-from_text-in-None-clause-refused c = λ unknown.
    handed_on c.from_residual.result _ _ c.from_residual.ensures.1 (cc (c.in_err-from_text-in-None.ensures.refused (not_own c.args.name.now (sym c.in-None.ensures) unknown)))

pub returns-in_ok-from_text-in-None-clause-gives : goal.returns-in_ok-from_text-in-None-clause-gives
returns-in_ok-from_text-in-None-clause-gives c = other_from c.args.name.now _ (sym c.in-None.ensures) c.in_ok-from_text-in-None.ensures.gives

pub returns-in_ok-from_text-in-None-clause-refused : goal.returns-in_ok-from_text-in-None-clause-refused
returns-in_ok-from_text-in-None-clause-refused c = λ unknown.
    absurd (cc (c.in_ok-from_text-in-None.ensures.refused (not_own c.args.name.now (sym c.in-None.ensures) unknown)))
