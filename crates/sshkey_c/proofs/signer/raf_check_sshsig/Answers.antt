use Rattle.std.proofs.Common.{refl}
use Rattle.sshkey_calls.specs.Validations.{authorities_of}
use Rattle.sshkey_sshsig.specs.SshSignatures.{ssh_signature_of}
use Rattle.sshkey_entry_calls.proofs.ByKeys.{told}
use Rattle.sshkey_c.proofs.signer.raf_check_sshsig.Goals as goal

pub returns-in-Ok-clause-verdict : goal.returns-in-Ok-clause-verdict
returns-in-Ok-clause-verdict c =
    told (authorities_of c.args.signers.now) c.args.namespace.now c.args.is_verified c.args.signature.now c.sshsig_status.result (ssh_signature_of c.in-Ok.read) c.in-Ok.ensures.accepts.spelled
    c.one_outcome.ensures.ssh_signature.one c.of.result.is_yes c.of.ensures c.sshsig_status.ensures

pub returns-in-Err-clause-verdict : goal.returns-in-Err-clause-verdict
returns-in-Err-clause-verdict c f spelled not_memory = absurd (c.in-Err.ensures.accepts (λ memory. not_memory (c.error_status.ensures.memory memory)) refl f spelled)
