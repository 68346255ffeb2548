use Rattle.std.proofs.lemmas.Result.{err_from_is_err_and}
use Rattle.sshkey_base.specs.Causes.{encoding_cause}
use Rattle.sshkey_cert_ref.proofs.TextSteps.{texts_spelled, no_text_list, judged_taken}
use Rattle.sshkey_cert_ref.proofs.principals_ref.PrincipalsRef.from_bytes.Goals as goal

pub returns-in_err-check_texts-clause-accepts : goal.returns-in_err-check_texts-clause-accepts
returns-in_err-check_texts-clause-accepts c =
    let p = err_from_is_err_and c.from_residual.result c.from_residual.ensures.1 in
    rw p.1 (no_text_list encoding_cause c.args.bytes.now _ c.in_err-check_texts.ensures)

pub returns-clause-accepts : goal.returns-clause-accepts
returns-clause-accepts c = texts_spelled c.args.bytes.now (judged_taken encoding_cause c.args.bytes.now c.in_ok-check_texts.ensures)
