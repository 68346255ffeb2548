use Rattle.std.proofs.Common.{[], ◌∷◌, sym, ◌∙◌}
use Rattle.sshkey_base.specs.Causes.{cause}
use Rattle.sshkey_terms.proofs.SliceFronts.{answers_ok}
use Rattle.sshkey_krl.specs.Revocation.{Certificates, Numbers, Range, range_from}
use Rattle.sshkey_krl.specs.Writing.{certificates_section, range_part, authority_of}
use Rattle.sshkey_krl.proofs.Grown.{range_spelled}
use Rattle.sshkey_krl.proofs.Grown.{adds, certificates_spelled, still_list}
use Rattle.sshkey_krl.proofs.krl.Krl.revoke_range.Goals as goal

pub invariant_of-self : goal.invariant_of-self
invariant_of-self c =
    let authority = authority_of c.args.authority in
    let part = Numbers (Range c.args.first c.args.last) in
    let parts = range_part c.args.first c.args.last in
    let some = answers_ok (λ (u : Unit {0}). Range c.args.first c.args.last) cause (range_from (c.args.first, c.args.last)) tt c.in_ok-check_range.ensures in
    let section = certificates_spelled authority part parts c.requires (sym c.is_read_authority.ensures ∙ c.if-not-is_read_authority.false) (range_spelled c.args.first c.args.last some) in
    record { form = still_list (Certificates authority (part ∷ [])) (certificates_section authority parts) c.args.self.now.bytes.items c.append_part.new.bytes.items c.append_part.result section c.args.self.now.form c.append_part.ensures }

pub returns-clause-added : goal.returns-clause-added
returns-clause-added c =
    let authority = authority_of c.args.authority in
    let part = Numbers (Range c.args.first c.args.last) in
    let parts = range_part c.args.first c.args.last in
    let some = answers_ok (λ (u : Unit {0}). Range c.args.first c.args.last) cause (range_from (c.args.first, c.args.last)) tt c.in_ok-check_range.ensures in
    let section = certificates_spelled authority part parts c.requires (sym c.is_read_authority.ensures ∙ c.if-not-is_read_authority.false) (range_spelled c.args.first c.args.last some) in
    λ _ _ _. adds (Certificates authority (part ∷ [])) (certificates_section authority parts) c.args.self.now.bytes.items c.append_part.new.bytes.items c.append_part.result section c.args.self.now.form c.append_part.ensures
