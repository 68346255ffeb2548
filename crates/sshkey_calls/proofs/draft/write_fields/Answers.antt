use Rattle.std.proofs.Common.{◌∙◌, refl, sym}
use Rattle.sshkey_model.specs.Certificates.{normal_to_be_signed}
use Rattle.sshkey_cert_values.specs.CertificateFields.{to_be_signed_of}
use Rattle.sshkey_calls.proofs.Drafts.{long_or_out, unfit}
use Rattle.sshkey_calls.proofs.Rooms.{none_given, told_as}
use Rattle.sshkey_calls.proofs.draft.write_fields.Goals as goal

pub returns-in-Ok-clause-written : goal.returns-in-Ok-clause-written
returns-in-Ok-clause-written c =
    let same = c.deref.ensures.value ∙ c.in-Ok.ensures.1 in
    told_as _ _ _ _ _ (λ s is. (c.in-Ok.ensures.0, is ∙ same)) (λ s is. is.1 ∙ sym same) c.write_bytes.ensures.written

pub returns-in-Ok-clause-long : goal.returns-in-Ok-clause-long
returns-in-Ok-clause-long c some not_memory apart = absurd (c.write_bytes.ensures.written.none some not_memory apart _ refl)

pub returns-in-Err-clause-written : goal.returns-in-Err-clause-written
returns-in-Err-clause-written c = none_given _ _ _ _ _ (refl, refl) c.error_status.ensures.some c.error_status.ensures.apart (λ not_memory s is. unfit (normal_to_be_signed (to_be_signed_of c.args.fields.now)) c.in-Err.error c.error_status.result c.in-Err.ensures c.error_status.ensures.memory not_memory is.0)

pub returns-in-Err-clause-long : goal.returns-in-Err-clause-long
returns-in-Err-clause-long c _ not_memory _ = long_or_out (normal_to_be_signed (to_be_signed_of c.args.fields.now)) c.in-Err.error c.error_status.result c.in-Err.ensures c.error_status.ensures.memory c.error_status.ensures.fault not_memory
