use Rattle.std.proofs.Common.{◌∙◌, List, ℕ, inl, inr, refl, subst}
use Rattle.sshkey_calls.specs.Drafts.{WritesCertificate}
use Rattle.sshkey_c.proofs.draft.raf_certificate_make.Goals as goal

pub returns-in-Ok : goal.returns-in-Ok
returns-in-Ok c =
    let joined = c.in-Ok.ensures.0 in
    inl (joined.1, subst (λ (b : List ℕ). WritesCertificate b c.write_certificate.result c.args.length.now c.write_certificate.new.length c.args.room.now c.write_certificate.new.room) (c.deref.ensures.value ∙ joined.0) c.write_certificate.ensures)

pub returns-in-Err : goal.returns-in-Err
returns-in-Err c = inr (c.in-Err.ensures, refl, refl)
