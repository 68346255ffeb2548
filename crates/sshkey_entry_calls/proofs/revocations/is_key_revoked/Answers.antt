use Rattle.std.proofs.lemmas.Result.{err_from_is_err_and}
use Rattle.sshkey_base.specs.Causes.{cause}
use Rattle.sshkey_model.specs.Keys.{key_data_at}
use Rattle.sshkey_keys_ref.specs.Keys.{key_bytes}
use Rattle.sshkey_model.specs.Reading.{whole}
use Rattle.sshkey_calls.proofs.Rooms.{kept_bytes}
use Rattle.sshkey_calls.proofs.Revocations.{renamed_key}
use Rattle.sshkey_entry_calls.proofs.revocations.is_key_revoked.Goals as goal

pub returns-in_err-key-clause-unsaid : goal.returns-in_err-key-clause-unsaid
returns-in_err-key-clause-unsaid c =
    let p = err_from_is_err_and c.from_residual.result c.from_residual.ensures.1 in
    rw p.1 (λ _ _ said. c.in_err-key.ensures.accepts said.0 said.1)

pub returns-in_err-bytes-clause-memory : goal.returns-in_err-bytes-clause-memory
returns-in_err-bytes-clause-memory c =
    let p = err_from_is_err_and c.from_residual-in_err-bytes.result c.from_residual-in_err-bytes.ensures.1 in
    let same = kept_bytes key_bytes cause c.args.key.now c.in_ok-key.key (whole key_data_at c.args.key.now) c.in_ok-key.ensures.keeps in
    rw p.1 (λ _. renamed_key (key_bytes c.in_ok-key.key) c.args.key.now same c.in_ok-key.ensures.accepts c.in_default.ensures)

pub returns-in_err-bytes-clause-unsaid : goal.returns-in_err-bytes-clause-unsaid
returns-in_err-bytes-clause-unsaid c =
    let p = err_from_is_err_and c.from_residual-in_err-bytes.result c.from_residual-in_err-bytes.ensures.1 in
    rw p.1 (λ other. absurd (other (let out = c.in_err-bytes.ensures.memory in let same = p.2 in cc)))
