use Rattle.std.proofs.Common.{[], ◌∷◌, sym, ◌∙◌}
use Rattle.sshkey_krl.specs.Revocation.{Certificates, Numbers, Listed}
use Rattle.sshkey_krl.specs.Writing.{certificates_section, serials_part, authority_of}
use Rattle.sshkey_krl.proofs.Grown.{serials_spelled}
use Rattle.sshkey_krl.proofs.Grown.{adds, certificates_spelled, still_list}
use Rattle.sshkey_krl.proofs.krl.Krl.revoke_serials.Goals as goal

pub invariant_of-self : goal.invariant_of-self
invariant_of-self c =
    let authority = authority_of c.args.authority in
    let part = Numbers (Listed c.args.serials.now) in
    let parts = serials_part c.args.serials.now in
    let some = sym c.contains.ensures.value ∙ c.if-contains.false in
    let section = certificates_spelled authority part parts c.requires (sym c.is_read_authority.ensures ∙ c.if-not-is_read_authority.false) (serials_spelled c.args.serials.now some) in
    record { form = still_list (Certificates authority (part ∷ [])) (certificates_section authority parts) c.args.self.now.bytes.items c.append_part.new.bytes.items c.append_part.result section c.args.self.now.form c.append_part.ensures }

pub returns-clause-added : goal.returns-clause-added
returns-clause-added c =
    let authority = authority_of c.args.authority in
    let part = Numbers (Listed c.args.serials.now) in
    let parts = serials_part c.args.serials.now in
    let some = sym c.contains.ensures.value ∙ c.if-contains.false in
    let section = certificates_spelled authority part parts c.requires (sym c.is_read_authority.ensures ∙ c.if-not-is_read_authority.false) (serials_spelled c.args.serials.now some) in
    λ _ _. adds (Certificates authority (part ∷ [])) (certificates_section authority parts) c.args.self.now.bytes.items c.append_part.new.bytes.items c.append_part.result section c.args.self.now.form c.append_part.ensures
