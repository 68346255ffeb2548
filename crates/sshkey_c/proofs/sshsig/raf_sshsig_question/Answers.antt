use Rattle.std.proofs.Common.{inl, inr, refl}
use Rattle.sshkey_sshsig.specs.SshSignatures.{ssh_signature_of}
use Rattle.sshkey_c.proofs.sshsig.raf_sshsig_question.Goals as goal

pub returns-in-Ok : goal.returns-in-Ok
returns-in-Ok c = inl (ssh_signature_of c.in-Ok.found, c.in-Ok.ensures.0, c.in-Ok.ensures.1, c.ask.ensures)

pub returns-in-Err : goal.returns-in-Err
returns-in-Err c = inr (c.in-Err.ensures, (refl, refl, refl))
