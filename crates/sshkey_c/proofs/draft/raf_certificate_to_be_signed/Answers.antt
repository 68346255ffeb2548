use Rattle.std.proofs.Common.{◌∙◌, arith, refl, sym}
use Rattle.sshkey_cert_values.specs.CertificateFields.{to_be_signed_of}
use Rattle.sshkey_calls.specs.Drafts.{TellsFields, draft_fault, parts_fault}
use Rattle.sshkey_calls.proofs.DraftNumbers.{first_three, last_three, no_fault_told, no_value, number_told, only_asked}
use Rattle.sshkey_calls.proofs.Drafts.{to_be_signed_told}
use Rattle.sshkey_calls.proofs.Rooms.{none_given}
use Rattle.sshkey_c.proofs.draft.raf_certificate_to_be_signed.Goals as goal

pub returns-in-Ok-clause-written : goal.returns-in-Ok-clause-written
returns-in-Ok-clause-written c = to_be_signed_told c.args.draft.now (to_be_signed_of c.in-Ok.fields) c.in-Ok.ensures.fields.0 _ _ _ _ _ c.write_fields.ensures.written

pub returns-in-Ok-clause-numbers : goal.returns-in-Ok-clause-numbers
returns-in-Ok-clause-numbers c some = let none = c.in-Ok.ensures.numbers some in absurd (cc none)

pub returns-in-Ok-clause-fault : goal.returns-in-Ok-clause-fault
returns-in-Ok-clause-fault c some not_memory apart = c.write_fields.ensures.long some not_memory apart ∙ sym (last_three (draft_fault c.args.draft.now) (parts_fault c.args.draft.now) 13 c.in-Ok.ensures.fields.1 (omega arith))

pub returns-in-Ok-clause-memory : goal.returns-in-Ok-clause-memory
returns-in-Ok-clause-memory c _ = let f = to_be_signed_of c.in-Ok.fields in (f.key, c.in-Ok.ensures.fields.0.key.0)

pub returns-in-Err-clause-written : goal.returns-in-Err-clause-written
returns-in-Err-clause-written c =
    let none = no_value (TellsFields c.args.draft.now) _ c.in-Err.number (no_fault_told c.args.draft.now) c.in-Err.ensures.fields in
    none_given _ _ _ _ _ (refl, refl) none.0 none.1 (λ not_memory s is. none.2 not_memory is.0 is.1)

pub returns-in-Err-clause-numbers : goal.returns-in-Err-clause-numbers
returns-in-Err-clause-numbers c some = let same = c.in-Err.ensures.numbers some in cc same

pub returns-in-Err-clause-fault : goal.returns-in-Err-clause-fault
returns-in-Err-clause-fault c _ not_memory _ =
    let told = number_told _ c.in-Err.number c.in-Err.ensures.fields not_memory in
    first_three (draft_fault c.args.draft.now) (parts_fault c.args.draft.now) 13 c.in-Err.number told.0 told.1

pub returns-in-Err-clause-memory : goal.returns-in-Err-clause-memory
returns-in-Err-clause-memory c = only_asked _ c.in-Err.number c.in-Err.ensures.fields
