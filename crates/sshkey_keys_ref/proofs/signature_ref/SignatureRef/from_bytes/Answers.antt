use Rattle.std.specs.Prelude.{Ok, Err}
use Rattle.std.proofs.lemmas.Result.{err_from_is_err_and}
use Rattle.sshkey_base.specs.Causes.{cause}
use Rattle.sshkey_keys.proofs.SignatureReaders.{signature_grammar}
use Rattle.sshkey_keys_ref.proofs.Acceptance.{judged}
use Rattle.sshkey_keys_ref.proofs.signature_ref.SignatureRef.from_bytes.Goals as goal

pub returns-in_err-check_signature-clause-accepts : goal.returns-in_err-check_signature-clause-accepts
returns-in_err-check_signature-clause-accepts c =
    let p = err_from_is_err_and c.from_residual.result c.from_residual.ensures.1 in
    rw p.1 (judged signature_grammar cause c.args.bytes.now (Err c.in_err-check_signature.field-0.0) c.in_err-check_signature.ensures)

pub returns-clause-accepts : goal.returns-clause-accepts
returns-clause-accepts c = judged signature_grammar cause c.args.bytes.now (Ok tt) c.in_ok-check_signature.ensures
