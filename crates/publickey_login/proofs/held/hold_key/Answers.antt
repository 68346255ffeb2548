use Rattle.std.proofs.Common.{◌∙◌, inr, refl, subst, sym}
use Rattle.std.proofs.lemmas.Result.{err_from_is_err_and}
use Rattle.sshkey_keys.specs.Keys.{key_of}
use Rattle.sshkey_model.specs.Keys.{SpellsKey}
use Rattle.publickey_login.specs.Values.{found_of, login_of}
use Rattle.publickey_login.proofs.held.hold_key.Goals as goal

pub returns-in_err-source : goal.returns-in_err-source
returns-in_err-source g c =
    let l = (login_of c.args.offer.now c.args.trusted.now c.args.place.now (g.R.Revocations.revokes c.args.revocations.now) (g.R.Revocations.revokes_key c.args.revocations.now)) in
    let asks = c.user_login-login.ensures.login (g.R.Revocations.revokes c.args.revocations.now) (g.R.Revocations.revokes_key c.args.revocations.now) in
    let spelled = subst (SpellsKey (key_of c.in-Ok.key)) c.requires c.in-Ok.ensures.spelled in
    let p = err_from_is_err_and c.from_residual-in_err-source.result c.from_residual-in_err-source.ensures.1 in
    rw (p.1, p.2) (λ other.
    let none = c.in_err-source.ensures l asks other in
    (key_of c.in-Ok.key, spelled, inr (inr (sym c.openssh_accepts_key.ensures ∙ c.if-not-openssh_accepts_key.false, sym c.in_ok-is_key_revoked.ensures.said ∙ c.if-branch.false, none))))

pub returns : goal.returns
returns g c =
    let l = (login_of c.args.offer.now c.args.trusted.now c.args.place.now (g.R.Revocations.revokes c.args.revocations.now) (g.R.Revocations.revokes_key c.args.revocations.now)) in
    let asks = c.user_login-login.ensures.login (g.R.Revocations.revokes c.args.revocations.now) (g.R.Revocations.revokes_key c.args.revocations.now) in
    let from = c.in_ok-source.ensures l asks in (
      record {
        spelled = subst (SpellsKey (key_of c.in-Ok.key)) c.requires c.in-Ok.ensures.spelled;
        accepted = sym c.openssh_accepts_key.ensures ∙ c.if-not-openssh_accepts_key.false;
        unrevoked = sym c.in_ok-is_key_revoked.ensures.said ∙ c.if-branch.false;
        found = found_of c.in_ok-source.field-0.line;
        source = from;
        line = refl;
        terms = refl;
        plain = refl;
        key = c.in_ok-fingerprint.ensures.given;
      },
      refl,
      refl,
    )
