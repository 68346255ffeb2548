use Rattle.std.proofs.Common.{◌<◌, length, refl, sym, ◌∙◌, arith}
use Rattle.std.proofs.lemmas.Bool.{eqb-false, eqb-true}
use Rattle.std.proofs.lemmas.Result.{err_from_is_err_and}
use Rattle.sshkey_base.specs.Causes.{cause}
use Rattle.sshkey_krl.specs.Query.{query_of}
use Rattle.sshkey_krl.proofs.Sections.{about_all, about_none, about_signer, about_unread}
use Rattle.sshkey_krl.proofs.section.is_about.Goals as goal

pub returns-then-is_empty : goal.returns-then-is_empty
returns-then-is_empty c = about_all (query_of c.args.query.now) cause c.args.authority.now _ (eqb-true (length c.args.authority.now) 0 (sym c.is_empty.ensures ∙ c.if-is_empty.true)) c.has_certificate.ensures

pub returns-in_err-key : goal.returns-in_err-key
returns-in_err-key c =
    let p = err_from_is_err_and c.from_residual.result c.from_residual.ensures.1 in
    let some : 0 < length c.args.authority.now = omega (arith, eqb-false (length c.args.authority.now) 0 (sym c.is_empty.ensures ∙ c.if-is_empty.false)) in
    rw (p.1, p.2) (about_none (query_of c.args.query.now) cause c.args.authority.now _ _ some c.in_err-key.ensures.keeps refl)

pub returns-then-not-is_read_signer : goal.returns-then-not-is_read_signer
returns-then-not-is_read_signer c =
    let some : 0 < length c.args.authority.now = omega (arith, eqb-false (length c.args.authority.now) 0 (sym c.is_empty.ensures ∙ c.if-is_empty.false)) in
    about_unread (query_of c.args.query.now) cause c.args.authority.now _ _ some c.in_ok-key.ensures.keeps (λ k s. sym c.if-not-is_read_signer.true ∙ c.is_read_signer.ensures k s) refl

pub returns : goal.returns
returns c =
    let some : 0 < length c.args.authority.now = omega (arith, eqb-false (length c.args.authority.now) 0 (sym c.is_empty.ensures ∙ c.if-is_empty.false)) in
    about_signer (query_of c.args.query.now) cause c.args.authority.now _ _ some c.in_ok-key.ensures.keeps (λ k s. sym c.if-not-is_read_signer.false ∙ c.is_read_signer.ensures k s) c.is_signer.ensures
