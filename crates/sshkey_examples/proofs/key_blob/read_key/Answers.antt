use Rattle.std.proofs.lemmas.Result.{err_from_is_err_and}
use Rattle.ssh_key.specs.model.Keys.{key_data_at}
use Rattle.ssh_key.specs.keys_ref.Keys.{key_bytes}
use Rattle.ssh_key.specs.model.Reading.{whole}
use Rattle.sshkey_examples.proofs.Faults.{kept_fault}
use Rattle.sshkey_examples.proofs.key_blob.read_key.Goals as goal

pub returns-in_err-from_bytes-clause-in_place : goal.returns-in_err-from_bytes-clause-in_place
returns-in_err-from_bytes-clause-in_place c = λ k spelled is. absurd (c.in_err-from_bytes.ensures.accepts k spelled)

pub returns-in_err-from_bytes-clause-fault : goal.returns-in_err-from_bytes-clause-fault
returns-in_err-from_bytes-clause-fault c =
    let p = err_from_is_err_and c.from_residual.result c.from_residual.ensures.1 in
    rw (p.1, p.2) (λ _. kept_fault key_bytes (whole key_data_at c.args.blob.now) c.args.blob.now _ c.in_err-from_bytes.ensures.keeps)
