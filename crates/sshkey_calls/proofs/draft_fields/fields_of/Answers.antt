use Rattle.std.proofs.Common.{ℕ, ◌<◌, ◌∙◌, ◌∷◌, [], arith, inr, subst, sym}
use Rattle.sshkey_base.specs.Judgements.{SpellsSome}
use Rattle.sshkey_model.specs.Keys.{SpellsKey}
use Rattle.sshkey_cert_values.specs.CertificateFields.{to_be_signed_of}
use Rattle.sshkey_calls.specs.Drafts.{FindsOr, TellsFields, draft_fault, parts_fault}
use Rattle.sshkey_calls.proofs.DraftNumbers.{first_here, first_two}
use Rattle.sshkey_calls.proofs.draft_fields.fields_of.Goals as goal

pub returns-in-Ok-clause-fields : goal.returns-in-Ok-clause-fields
returns-in-Ok-clause-fields c =
    let d = c.args.draft.now in
    subst (λ (m : ℕ). FindsOr (TellsFields d) to_be_signed_of m (SpellsSome SpellsKey d.key.now) c.fields_with.result) (sym (first_two (draft_fault d) (parts_fault d) c.in-Ok.ensures.right)) c.fields_with.ensures

pub returns-in-Ok-clause-numbers : goal.returns-in-Ok-clause-numbers
returns-in-Ok-clause-numbers c some = absurd (some c.in-Ok.ensures.right)

pub returns-in-Err-clause-fields : goal.returns-in-Err-clause-fields
returns-in-Err-clause-fields c =
    let d = c.args.draft.now in
    let some : 0 < draft_fault d = subst (λ (m : ℕ). 0 < m) c.in-Err.ensures.fault (omega (arith, c.in-Err.ensures.some)) in
    inr (c.in-Err.ensures.some, c.in-Err.ensures.fault ∙ sym (first_here (draft_fault d) (parts_fault d ∷ []) some))
