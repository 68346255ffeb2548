use Rattle.std.proofs.Common.{inl, refl, ◌∙◌}
use Rattle.sshkey_base.specs.Causes.{cause}
use Rattle.sshkey_keys_ref.specs.Signatures.{signature_bytes}
use Rattle.sshkey_model.specs.Reading.{whole}
use Rattle.sshkey_model.specs.Signatures.{signature_at, SpellsSignature}
use Rattle.sshkey_calls.proofs.Rooms.{kept_bytes, never_memory, refused, give_one}
use Rattle.sshkey_c.proofs.normal.raf_signature_normal.Goals as goal

pub returns-in-Ok-clause-normal : goal.returns-in-Ok-clause-normal
returns-in-Ok-clause-normal c =
    let g = c.in-Ok.ensures.accepts in
    let same = kept_bytes signature_bytes cause c.args.signature.now c.in-Ok.read (whole signature_at c.args.signature.now) c.in-Ok.ensures.keeps in
    inl (g.0, g.1, give_one _ _ _ _ _ _ (c.as_bytes.ensures.bytes ∙ same ∙ g.1.shape) c.write_bytes.ensures.written)

pub returns-in-Ok-clause-memory : goal.returns-in-Ok-clause-memory
returns-in-Ok-clause-memory c = c.write_bytes.ensures.memory

pub returns-in-Err-clause-normal : goal.returns-in-Err-clause-normal
returns-in-Err-clause-normal c = refused signature_bytes cause c.args.signature.now c.in-Err.error _ c.error_status.ensures.fault SpellsSignature signature_at c.in-Err.ensures.keeps (refl, refl)

pub returns-in-Err-clause-memory : goal.returns-in-Err-clause-memory
returns-in-Err-clause-memory c = never_memory signature_bytes cause c.args.signature.now (whole signature_at c.args.signature.now) _ _ c.error_status.ensures.range c.in-Err.ensures.keeps
