use Rattle.std.proofs.Common.{refl}
use Rattle.std.proofs.lemmas.Result.{err_from_is_err_and}
use Rattle.sshkey_base.specs.Causes.{encoding_cause}
use Rattle.sshkey_base.proofs.Lawful.{texts_grammar}
use Rattle.sshkey_terms.proofs.SliceFronts.{split_spelled}
use Rattle.sshkey_cert_ref.specs.Views.{texts_of}
use Rattle.sshkey_cert_ref.proofs.principals_ref.PrincipalsRef.from_front.Goals as goal

pub returns-in_err-texts-clause-gives : goal.returns-in_err-texts-clause-gives
returns-in_err-texts-clause-gives c =
    let p = err_from_is_err_and c.from_residual.result c.from_residual.ensures.1 in
    let h = c.in_err-texts.ensures.gives in
    rw (p.1, p.2, h.is) (h.same refl)

pub returns-clause-gives : goal.returns-clause-gives
returns-clause-gives c = rw c.in_ok-texts.ensures.gives.value refl

pub returns-in_err-texts-clause-accepts : goal.returns-in_err-texts-clause-accepts
returns-in_err-texts-clause-accepts c = split_spelled texts_grammar texts_of encoding_cause c.args.bytes.now c.from_residual.result (returns-in_err-texts-clause-gives c)

pub returns-clause-accepts : goal.returns-clause-accepts
returns-clause-accepts c = split_spelled texts_grammar texts_of encoding_cause c.args.bytes.now _ (returns-clause-gives c)
