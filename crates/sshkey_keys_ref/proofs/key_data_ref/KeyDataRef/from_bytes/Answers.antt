use Rattle.std.specs.Prelude.{Ok, Err}
use Rattle.std.proofs.lemmas.Result.{err_from_is_err_and}
use Rattle.sshkey_base.specs.Causes.{cause}
use Rattle.sshkey_keys.proofs.KeyReaders.{key_grammar}
use Rattle.sshkey_keys_ref.proofs.Acceptance.{judged}
use Rattle.sshkey_keys_ref.proofs.key_data_ref.KeyDataRef.from_bytes.Goals as goal

pub returns-in_err-check_key-clause-accepts : goal.returns-in_err-check_key-clause-accepts
returns-in_err-check_key-clause-accepts c =
    let p = err_from_is_err_and c.from_residual.result c.from_residual.ensures.1 in
    rw p.1 (judged key_grammar cause c.args.bytes.now (Err c.in_err-check_key.field-0.0) c.in_err-check_key.ensures)

pub returns-clause-accepts : goal.returns-clause-accepts
returns-clause-accepts c = judged key_grammar cause c.args.bytes.now (Ok tt) c.in_ok-check_key.ensures
