use Rattle.std.proofs.Common.{◌≡◌, ℕ, IfErr, Result, false, List, subst, sym, true≢false, ◌∙◌}
use Rattle.std.proofs.lemmas.Result.{err_from_is_err_and}
use Rattle.openssh_limits.specs.Limits.{openssh_accepts_key}
use Rattle.sshkey_keys.specs.Keys.{key_of}
use Rattle.sshkey_known_hosts.specs.Verdicts.{IsVerdict}
use Rattle.sshkey_krl.specs.Revocations.{is_key_revoked}
use Rattle.sshkey_known_hosts.specs.declared.verdict.Verdict.TheVariants.{Trusted}
use Rattle.host_keys.specs.Answers.{AsksOf, IsWhy, OkExactly}
use Rattle.host_keys.specs.Hosts.{IsSaidOfKey, IsTrustedKey, lines_of, login_of}
use Rattle.host_keys.specs.declared.refusal.HostRefusal.{HostRefusal}
use Rattle.host_keys.proofs.HostKeys.{asks_of, exactly, one_said, why}
use Rattle.host_keys.proofs.key.check_asked.Goals as goal

pub returns-in_err-answer : goal.returns-in_err-answer
returns-in_err-answer g c =
    let hmac = g.H.HostHasher.hmac c.args.hmac.now in
    let key = key_of c.args.key.now in
    let lines = lines_of c.args.login.now.texts.now in
    let revoked = is_key_revoked (g.R.Revocations.revokes_key c.args.revocations.now) key in
    let Said = IsSaidOfKey hmac c.args.login.now.host.now c.args.login.now.port key lines in
    let one = one_said (λ (name : List ℕ). IsVerdict hmac name key lines) c.args.login.now.host.now c.args.login.now.port (λ name. c.one_verdict.ensures hmac name key lines) in
    let told = exactly Said revoked one _ _ c.is_key_revoked-revoked.ensures.said c.key_verdict-said.ensures.answer in
    let p = err_from_is_err_and c.from_residual.result c.from_residual.ensures.1 in
    let is = sym c.answer.ensures ∙ c.in_err-answer.was in
    rw (p.1, p.2) (record {
      exactly = λ other (trusted : IsTrustedKey (login_of c.args.login.now hmac) (g.R.Revocations.revokes_key c.args.revocations.now) key). (subst (OkExactly ((revoked ≡ false) × Said Trusted)) is told) other (trusted.unrevoked, trusted.listed);
      refused = subst (λ (r : Result (Unit {0}) HostRefusal). IfErr r (IsWhy Said revoked (openssh_accepts_key c.args.login.now.least_rsa_bits key) (λ r. ⊥))) is (why Said revoked _ (λ r. ⊥) _ _ c.is_key_revoked-revoked.ensures.said c.key_verdict-said.ensures.answer);
      asks = subst (AsksOf ⊥ (g.R.Revocations.revokes_none c.args.revocations.now) lines) is (asks_of ⊥ _ lines _ _ c.is_key_revoked-revoked.ensures.asks c.key_verdict-said.ensures.asks);
    })

pub returns-then-not-openssh_accepts_key-clause-exactly : goal.returns-then-not-openssh_accepts_key-clause-exactly
returns-then-not-openssh_accepts_key-clause-exactly g c = λ other is. true≢false (sym is.accepted ∙ sym c.openssh_accepts_key.ensures ∙ c.if-not-openssh_accepts_key.true)

pub returns-then-not-openssh_accepts_key-clause-refused : goal.returns-then-not-openssh_accepts_key-clause-refused
returns-then-not-openssh_accepts_key-clause-refused g c =
    let hmac = g.H.HostHasher.hmac c.args.hmac.now in
    let key = key_of c.args.key.now in
    let lines = lines_of c.args.login.now.texts.now in
    let revoked = is_key_revoked (g.R.Revocations.revokes_key c.args.revocations.now) key in
    let Said = IsSaidOfKey hmac c.args.login.now.host.now c.args.login.now.port key lines in
    let one = one_said (λ (name : List ℕ). IsVerdict hmac name key lines) c.args.login.now.host.now c.args.login.now.port (λ name. c.one_verdict.ensures hmac name key lines) in
    let told = exactly Said revoked one _ _ c.is_key_revoked-revoked.ensures.said c.key_verdict-said.ensures.answer in
    let trusted : (revoked ≡ false) × Said Trusted = subst (OkExactly ((revoked ≡ false) × Said Trusted)) (sym c.answer.ensures ∙ c.in_ok-answer.was) told in
    (trusted.0, trusted.1, sym c.openssh_accepts_key.ensures ∙ c.if-not-openssh_accepts_key.true)

pub returns-clause-exactly : goal.returns-clause-exactly
returns-clause-exactly g c =
    let hmac = g.H.HostHasher.hmac c.args.hmac.now in
    let key = key_of c.args.key.now in
    let lines = lines_of c.args.login.now.texts.now in
    let revoked = is_key_revoked (g.R.Revocations.revokes_key c.args.revocations.now) key in
    let Said = IsSaidOfKey hmac c.args.login.now.host.now c.args.login.now.port key lines in
    let one = one_said (λ (name : List ℕ). IsVerdict hmac name key lines) c.args.login.now.host.now c.args.login.now.port (λ name. c.one_verdict.ensures hmac name key lines) in
    let told = exactly Said revoked one _ _ c.is_key_revoked-revoked.ensures.said c.key_verdict-said.ensures.answer in
    let trusted : (revoked ≡ false) × Said Trusted = subst (OkExactly ((revoked ≡ false) × Said Trusted)) (sym c.answer.ensures ∙ c.in_ok-answer.was) told in
    record { listed = trusted.1; unrevoked = trusted.0; accepted = sym c.openssh_accepts_key.ensures ∙ c.if-not-openssh_accepts_key.false }
