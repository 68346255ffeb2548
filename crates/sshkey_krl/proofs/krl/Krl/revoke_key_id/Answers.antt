use Rattle.std.proofs.Common.{[], ◌∷◌, sym, ◌∙◌}
use Rattle.sshkey_krl.specs.Revocation.{Certificates, KeyIds}
use Rattle.sshkey_krl.specs.Writing.{certificates_section, key_id_part, authority_of}
use Rattle.sshkey_krl.proofs.Grown.{key_id_spelled}
use Rattle.sshkey_krl.proofs.Grown.{adds, certificates_spelled, still_list}
use Rattle.sshkey_krl.proofs.krl.Krl.revoke_key_id.Goals as goal

pub invariant_of-self : goal.invariant_of-self
invariant_of-self c =
    let authority = authority_of c.args.authority in
    let part = KeyIds (c.args.key_id.now ∷ []) in
    let parts = key_id_part c.args.key_id.now in
    let some = rw c.as_bytes.ensures.value at (sym c.contains.ensures.value ∙ c.if-contains.false) in
    let section = certificates_spelled authority part parts c.requires (sym c.is_read_authority.ensures ∙ c.if-not-is_read_authority.false) (key_id_spelled c.args.key_id.now some) in
    record { form = still_list (Certificates authority (part ∷ [])) (certificates_section authority parts) c.args.self.now.bytes.items c.append_part.new.bytes.items c.append_part.result section c.args.self.now.form c.append_part.ensures }

pub returns-clause-added : goal.returns-clause-added
returns-clause-added c =
    let authority = authority_of c.args.authority in
    let part = KeyIds (c.args.key_id.now ∷ []) in
    let parts = key_id_part c.args.key_id.now in
    let some = rw c.as_bytes.ensures.value at (sym c.contains.ensures.value ∙ c.if-contains.false) in
    let section = certificates_spelled authority part parts c.requires (sym c.is_read_authority.ensures ∙ c.if-not-is_read_authority.false) (key_id_spelled c.args.key_id.now some) in
    λ _ _. adds (Certificates authority (part ∷ [])) (certificates_section authority parts) c.args.self.now.bytes.items c.append_part.new.bytes.items c.append_part.result section c.args.self.now.form c.append_part.ensures
