use Rattle.std.proofs.Common.{refl}
use Rattle.sshkey_base.specs.Causes.{cause}
use Rattle.sshkey_model.specs.Lines.{IsLineOf, name_of_certificate}
use Rattle.sshkey_model.specs.Certificates.{SpellsCertificate}
use Rattle.sshkey_cert.specs.Certificates.{certificate_of}
use Rattle.sshkey_calls.proofs.Rooms.{only_memory}
use Rattle.sshkey_calls.proofs.KeyLines.{certificate_has_none, fault_told, memory_of, needs_certificate, needs_certificate_line, reads_certificate}
use Rattle.sshkey_calls.proofs.line.read_certificate.Goals as goal

pub returns-in-Ok-clause-reads : goal.returns-in-Ok-clause-reads
returns-in-Ok-clause-reads c =
    let line : IsLineOf name_of_certificate SpellsCertificate c.args.text.now (certificate_of c.in-Ok.read.0) c.as_str.result.now = rw c.as_str.ensures.value c.in-Ok.ensures.reads in
    reads_certificate c.args.text.now (certificate_of c.in-Ok.read.0) c.as_str.result.now _ _ _ _ _ line c.write_line.ensures

pub returns-in-Err-clause-reads : goal.returns-in-Err-clause-reads
returns-in-Err-clause-reads c = fault_told c.args.text.now c.args.key_fault c.error_status.result c.fault_of.result _ _ _ _ (refl, refl) c.requires.none c.requires.fault
    (λ other. c.in-Err.ensures.reads (λ memory. other (c.error_status.ensures.memory memory)))
    (λ other. c.error_status.ensures.range (λ memory. other (c.error_status.ensures.memory memory)))
    c.error_status.ensures.some c.error_status.ensures.apart c.fault_of.ensures.either c.fault_of.ensures.memory

pub returns-in-Ok-clause-memory : goal.returns-in-Ok-clause-memory
returns-in-Ok-clause-memory c _ =
    let line : IsLineOf name_of_certificate SpellsCertificate c.args.text.now (certificate_of c.in-Ok.read.0) c.as_str.result.now = rw c.as_str.ensures.value c.in-Ok.ensures.reads in
    needs_certificate_line c.args.text.now (certificate_of c.in-Ok.read.0) c.as_str.result.now line

pub returns-in-Err-clause-memory : goal.returns-in-Err-clause-memory
returns-in-Err-clause-memory c one =
    let out = memory_of c.args.key_fault c.error_status.result _ c.requires.fault.0 c.fault_of.ensures.either one in
    needs_certificate c.args.text.now (c.in-Err.ensures.asks (only_memory (cause c.in-Err.error) _ c.error_status.ensures.range out))

pub returns-in-Ok-clause-fault : goal.returns-in-Ok-clause-fault
returns-in-Ok-clause-fault c _ =
    let line : IsLineOf name_of_certificate SpellsCertificate c.args.text.now (certificate_of c.in-Ok.read.0) c.as_str.result.now = rw c.as_str.ensures.value c.in-Ok.ensures.reads in
    certificate_has_none c.args.text.now (certificate_of c.in-Ok.read.0) c.as_str.result.now _ _ _ _ _ line c.write_line.ensures

pub returns-in-Err-clause-fault : goal.returns-in-Err-clause-fault
returns-in-Err-clause-fault c key _ not_one _ = (c.args.key_fault, c.error_status.result, key, (c.in-Err.error, c.in-Err.ensures.fault (λ memory. not_one (c.fault_of.ensures.memory (c.error_status.ensures.memory memory))), c.error_status.ensures.number), c.fault_of.ensures.number)
