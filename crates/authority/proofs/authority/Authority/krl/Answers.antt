use Rattle.std.proofs.Common.{[], ◌∷◌, refl, ap, ◌∙◌}
use Rattle.std.proofs.lemmas.Result.{err_from_is_err_and}
use Rattle.ssh_key.specs.keys.Keys.{key_of}
use Rattle.ssh_key.specs.krl.Revocation.{Certificates, Krl, Numbers, Signer, with_section, Listed}
use Rattle.ssh_key.specs.krl.Writing.{krl_of}
use Rattle.authority.proofs.Revoked.{by_other, none_begun, not_added, stated, takes_back}
use Rattle.authority.proofs.authority.Authority.krl.Goals as goal

pub returns-clause-stated : goal.returns-clause-stated
returns-clause-stated c =
    let section = Certificates (Signer (key_of c.args.public_key.now)) (Numbers (Listed c.args.self.now.revoked.items) ∷ []) in
    let first = c.in_ok-krl.ensures.begins refl in
    let added = rw c.as_slice.ensures.value at c.in_ok-revoke_serials.ensures.added in
    let then = added c.args.self.now.numbered (by_other _ c.in_ok-revoke_serials.ensures.unread (λ rejected. cc rejected.0)) in
    stated c.args.number c.args.date [] section (krl_of c.revoke_serials.new.self) (then.0 ∙ ap (λ (z : Krl). with_section z section) first.0)

pub returns-clause-revoked : goal.returns-clause-revoked
returns-clause-revoked c =
    let authority = key_of c.args.public_key.now in
    let serials = c.args.self.now.revoked.items in
    let section = Certificates (Signer authority) (Numbers (Listed serials) ∷ []) in
    let first = c.in_ok-krl.ensures.begins refl in
    let added = rw c.as_slice.ensures.value at c.in_ok-revoke_serials.ensures.added in
    let then = added c.args.self.now.numbered (by_other _ c.in_ok-revoke_serials.ensures.unread (λ rejected. cc rejected.0)) in
    takes_back authority serials c.args.number c.args.date [] (krl_of c.revoke_serials.new.self) c.args.self.now.numbered (then.0 ∙ ap (λ (z : Krl). with_section z section) first.0)

pub returns-in_err-krl-clause-refused : goal.returns-in_err-krl-clause-refused
returns-in_err-krl-clause-refused c =
    let p = err_from_is_err_and c.from_residual.result c.from_residual.ensures.1 in
    rw (p.1, p.2) (none_begun c.args.number c.args.date (key_of c.args.public_key.now) c.args.self.now.revoked.items _ (c.in_err-krl.ensures.begins refl))

pub returns-in_err-revoke_serials-clause-refused : goal.returns-in_err-revoke_serials-clause-refused
returns-in_err-revoke_serials-clause-refused c =
    let p = err_from_is_err_and c.from_residual-in_err-revoke_serials.result c.from_residual-in_err-revoke_serials.ensures.1 in
    let added = rw c.as_slice.ensures.value at c.in_err-revoke_serials.ensures.added in
    rw (p.1, p.2) (not_added (key_of c.args.public_key.now) c.args.self.now.revoked.items _ _ refl (λ unread. cc (c.in_err-revoke_serials.ensures.unread unread).0) (λ read. (added c.args.self.now.numbered read).0))
