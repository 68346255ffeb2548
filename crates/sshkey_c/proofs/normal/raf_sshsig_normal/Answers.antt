use Rattle.std.proofs.Common.{inl, refl}
use Rattle.sshkey_base.specs.Causes.{cause}
use Rattle.sshkey_sshsig.specs.SshSignatures.{ssh_signature_of}
use Rattle.sshkey_calls.proofs.Signatures.{unread}
use Rattle.sshkey_c.proofs.normal.raf_sshsig_normal.Goals as goal

pub returns-in-Ok : goal.returns-in-Ok
returns-in-Ok c = inl (inl (ssh_signature_of c.in-Ok.read, c.in-Ok.ensures.accepts.spelled, c.write_encoded.ensures))

pub returns-in-Err : goal.returns-in-Err
returns-in-Err c = unread (cause c.in-Err.error) c.args.signature.now _ c.in-Err.ensures.gives c.in-Err.ensures.asks c.error_status.ensures.memory c.error_status.ensures.fault (refl, refl)
