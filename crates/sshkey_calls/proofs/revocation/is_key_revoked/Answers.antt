use Rattle.std.proofs.lemmas.Result.{err_from_is_err_and}
use Rattle.sshkey_base.specs.Causes.{cause}
use Rattle.sshkey_model.specs.Keys.{key_data_at}
use Rattle.sshkey_keys_ref.specs.Keys.{key_bytes}
use Rattle.sshkey_krl.specs.KrlRef.{krl_of}
use Rattle.sshkey_model.specs.Reading.{whole}
use Rattle.sshkey_calls.proofs.Rooms.{kept_bytes}
use Rattle.sshkey_calls.proofs.Revocations.{renamed_key}
use Rattle.sshkey_calls.proofs.revocation.is_key_revoked.Goals as goal

pub returns-in_err-list-clause-key : goal.returns-in_err-list-clause-key
returns-in_err-list-clause-key c some _ _ = absurd (c.in_err-list.ensures.accepts some.0 some.1)

pub returns-in_err-list-clause-unsaid : goal.returns-in_err-list-clause-unsaid
returns-in_err-list-clause-unsaid c =
    let p = err_from_is_err_and c.from_residual.result c.from_residual.ensures.1 in
    rw p.1 (λ _ _ said. c.in_err-list.ensures.accepts said.list said.list_spelled)

pub returns-in_err-key-clause-unsaid : goal.returns-in_err-key-clause-unsaid
returns-in_err-key-clause-unsaid c =
    let p = err_from_is_err_and c.from_residual-in_err-key.result c.from_residual-in_err-key.ensures.1 in
    rw p.1 (λ _ _ said. c.in_err-key.ensures.accepts said.value said.value_spelled)

pub returns-in_err-bytes-clause-memory : goal.returns-in_err-bytes-clause-memory
returns-in_err-bytes-clause-memory c =
    let p = err_from_is_err_and c.from_residual-in_err-bytes.result c.from_residual-in_err-bytes.ensures.1 in
    let same = kept_bytes key_bytes cause c.args.key.now c.in_ok-key.key (whole key_data_at c.args.key.now) c.in_ok-key.ensures.keeps in
    rw p.1 (λ _. ((krl_of c.in_ok-list.list, c.in_ok-list.ensures.accepts), renamed_key (key_bytes c.in_ok-key.key) c.args.key.now same c.in_ok-key.ensures.accepts c.in_default.ensures))
