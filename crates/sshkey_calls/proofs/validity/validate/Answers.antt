use Rattle.sshkey_base.specs.Causes.{cause}
use Rattle.sshkey_cert_ref.specs.CertificateRef.{certificate_bytes, certificate_of}
use Rattle.sshkey_model.specs.Certificates.{certificate_at}
use Rattle.sshkey_model.specs.Reading.{whole}
use Rattle.sshkey_calls.specs.Validations.{authorities_of}
use Rattle.sshkey_calls.proofs.Rooms.{kept_bytes, never_memory, no_fault}
use Rattle.sshkey_calls.proofs.Validations.{first_told, renamed_in}
use Rattle.sshkey_calls.proofs.validity.validate.Goals as goal

pub returns-in-Ok-clause-first : goal.returns-in-Ok-clause-first
returns-in-Ok-clause-first c accepts v = first_told accepts c.args.certificate.now c.args.is_verified v (certificate_of c.in-Ok.read) c.in-Ok.ensures.accepts (authorities_of c.args.authorities.now) c.args.unix_timestamp _ c.judge.result c.judge.ensures.told

pub returns-in-Ok-clause-spelled : goal.returns-in-Ok-clause-spelled
returns-in-Ok-clause-spelled c _ = (certificate_of c.in-Ok.read, c.in-Ok.ensures.accepts)

pub returns-in-Ok-clause-fault : goal.returns-in-Ok-clause-fault
returns-in-Ok-clause-fault c fault is = absurd (no_fault certificate_bytes cause c.args.certificate.now c.in-Ok.read (whole certificate_at c.args.certificate.now) fault is c.in-Ok.ensures.keeps)

pub returns-in-Ok-clause-memory : goal.returns-in-Ok-clause-memory
returns-in-Ok-clause-memory c one = renamed_in c.in-Ok.read c.args.certificate.now (kept_bytes certificate_bytes cause c.args.certificate.now c.in-Ok.read (whole certificate_at c.args.certificate.now) c.in-Ok.ensures.keeps) (c.judge.ensures.memory one)

pub returns-in-Err-clause-first : goal.returns-in-Err-clause-first
returns-in-Err-clause-first c accepts v d spelled _ = absurd (c.in-Err.ensures.accepts d spelled)

pub returns-in-Err-clause-spelled : goal.returns-in-Err-clause-spelled
returns-in-Err-clause-spelled c zero_ = absurd (c.error_status.ensures.some zero_)

pub returns-in-Err-clause-fault : goal.returns-in-Err-clause-fault
returns-in-Err-clause-fault c fault is = c.error_status.ensures.fault fault (rw is at c.in-Err.ensures.keeps)

pub returns-in-Err-clause-memory : goal.returns-in-Err-clause-memory
returns-in-Err-clause-memory c one = absurd (never_memory certificate_bytes cause c.args.certificate.now (whole certificate_at c.args.certificate.now) _ _ c.error_status.ensures.range c.in-Err.ensures.keeps one)
