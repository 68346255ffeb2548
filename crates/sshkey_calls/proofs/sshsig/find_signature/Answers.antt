use Rattle.std.proofs.Common.{inl, refl}
use Rattle.sshkey_base.specs.Causes.{cause}
use Rattle.sshkey_sshsig.specs.SshSignatures.{ssh_signature_of}
use Rattle.sshkey_calls.proofs.Signatures.{unread}
use Rattle.sshkey_calls.proofs.sshsig.find_signature.Goals as goal

pub returns-then-is_in : goal.returns-then-is_in
returns-then-is_in c = (c.in-Ok.ensures.accepts.spelled, c.is_in.ensures.0 c.if-is_in.true)

pub returns-else-is_in : goal.returns-else-is_in
returns-else-is_in c = inl (inl (ssh_signature_of c.in-Ok.read, c.in-Ok.ensures.accepts.spelled, (λ same. let yes_ = c.is_in.ensures.1 same in cc (yes_, c.if-is_in.false), refl)))

pub returns-in-Err : goal.returns-in-Err
returns-in-Err c = unread (cause c.in-Err.error) c.args.signature.now _ c.in-Err.ensures.gives c.in-Err.ensures.asks c.error_status.ensures.memory c.error_status.ensures.fault tt
