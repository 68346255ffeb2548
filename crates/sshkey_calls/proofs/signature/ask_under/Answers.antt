use Rattle.std.proofs.Common.{inl, refl, subst, sym}
use Rattle.sshkey_base.specs.Causes.{cause}
use Rattle.sshkey_keys_ref.specs.Signatures.{signature_bytes}
use Rattle.sshkey_model.specs.Reading.{whole}
use Rattle.sshkey_model.specs.Signatures.{signature_at, SpellsSignature}
use Rattle.sshkey_calls.proofs.Rooms.{kept_bytes, refused}
use Rattle.sshkey_calls.proofs.signature.ask_under.Goals as goal

pub returns-in-Ok : goal.returns-in-Ok
returns-in-Ok c k by =
    let g = c.in-Ok.ensures.accepts in
    let same = kept_bytes signature_bytes cause c.args.signature.now c.in-Ok.made (whole signature_at c.args.signature.now) c.in-Ok.ensures.keeps in
    inl (g.0, g.1, c.ask.ensures k g.0 by (subst (SpellsSignature g.0) (sym same) g.1))

pub returns-in-Err : goal.returns-in-Err
returns-in-Err c k by = refused signature_bytes cause c.args.signature.now c.in-Err.error _ c.error_status.ensures.fault SpellsSignature signature_at c.in-Err.ensures.keeps (refl, refl)
