use Rattle.std.proofs.Common.{◌≡◌, ℕ, true, IfErr, List, ap, inl, subst, sym}
use Rattle.std.proofs.lemmas.Result.{err_from_is_err_and}
use Rattle.sshkey_matching.specs.AskedHosts.{IsAsked}
use Rattle.sshkey_matching.specs.FromLists.{is_like_address}
use Rattle.sshkey_cert.specs.Certificates.{certificate_of}
use Rattle.host_keys.specs.Answers.{AsksOf, IsWhyUnknown, KnownExactly}
use Rattle.host_keys.specs.Hosts.{HostCheck, IsKnownBy, login_of}
use Rattle.host_keys.proofs.HostKeys.{known_asked, needs_name, none_asked, why_asked, asks_more}
use Rattle.host_keys.proofs.certificate.judge.Goals as goal

pub returns-in_err-asked : goal.returns-in_err-asked
returns-in_err-asked g c =
    let login = login_of c.args.login.now (g.H.HostHasher.hmac c.args.hmac.now) in
    let p = err_from_is_err_and c.from_residual.result c.from_residual.ensures.1 in
    rw (p.1, p.2) (record {
      exactly = λ other by. none_asked login (λ asked. IsKnownBy asked (g.V.RawVerifier.accepts c.args.verifier.now) (g.R.Revocations.revokes c.args.revocations.now) (g.R.Revocations.revokes_key c.args.revocations.now) (certificate_of c.args.certificate.now) by) _ c.in_err-asked.ensures other;
      refused = inl c.in_err-asked.ensures;
      asks = needs_name login _ _ _ c.in_err-asked.ensures;
    })

pub returns-clause-exactly : goal.returns-clause-exactly
returns-clause-exactly g c =
    let hmac = g.H.HostHasher.hmac c.args.hmac.now in
    let login = login_of c.args.login.now hmac in
    let Holds = λ (l : HostCheck). IsKnownBy l (g.V.RawVerifier.accepts c.args.verifier.now) (g.R.Revocations.revokes c.args.revocations.now) (g.R.Revocations.revokes_key c.args.revocations.now) (certificate_of c.args.certificate.now) in
    let asked = subst (IsAsked login.host login.port) (sym c.as_str.ensures) c.in_ok-asked.ensures in
    known_asked login c.as_str.result.now asked c.check_asked_certificate.result Holds (subst (λ (l : HostCheck). KnownExactly (Holds l) c.check_asked_certificate.result) (c.under-login.ensures hmac) c.check_asked_certificate.ensures.exactly)

pub returns-clause-refused : goal.returns-clause-refused
returns-clause-refused g c =
    let hmac = g.H.HostHasher.hmac c.args.hmac.now in
    let login = login_of c.args.login.now hmac in
    let Why = λ (l : HostCheck). IsWhyUnknown l (g.V.RawVerifier.accepts c.args.verifier.now) (g.R.Revocations.revokes c.args.revocations.now) (g.R.Revocations.revokes_key c.args.revocations.now) (certificate_of c.args.certificate.now) in
    let asked = subst (IsAsked login.host login.port) (sym c.as_str.ensures) c.in_ok-asked.ensures in
    why_asked login c.as_str.result.now asked c.check_asked_certificate.result Why (subst (λ (l : HostCheck). IfErr c.check_asked_certificate.result (Why l)) (c.under-login.ensures hmac) c.check_asked_certificate.ensures.refused)

pub returns-clause-asks : goal.returns-clause-asks
returns-clause-asks g c =
    let hmac = g.H.HostHasher.hmac c.args.hmac.now in
    let none = g.R.Revocations.revokes_none c.args.revocations.now in
    let lines = ap (λ (l : HostCheck). l.lines) (c.under-login.ensures hmac) in
    asks_more ⊥ (is_like_address c.args.login.now.host.now ≡ true) (λ nothing. absurd nothing) none _ c.check_asked_certificate.result (subst (λ (ls : List (List ℕ)). AsksOf ⊥ none ls c.check_asked_certificate.result) lines c.check_asked_certificate.ensures.asks)
