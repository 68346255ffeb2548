use Rattle.std.proofs.Common.{◌≡◌, ℕ, true, IfErr, List, ap, inl, subst, sym}
use Rattle.std.proofs.lemmas.Result.{err_from_is_err_and}
use Rattle.sshkey_matching.specs.AskedHosts.{IsAsked}
use Rattle.sshkey_matching.specs.FromLists.{is_like_address}
use Rattle.sshkey_keys.specs.Keys.{key_of}
use Rattle.host_keys.specs.Answers.{AsksOf, IsWhyNoKey, OkExactly}
use Rattle.host_keys.specs.Hosts.{HostCheck, IsTrustedKey, login_of}
use Rattle.host_keys.proofs.HostKeys.{exactly_asked, needs_name, none_asked, why_asked, asks_more}
use Rattle.host_keys.proofs.key.check_key.Goals as goal

pub returns-in_err-asked : goal.returns-in_err-asked
returns-in_err-asked g c =
    let login = login_of c.args.login.now (g.H.HostHasher.hmac c.args.hmac.now) in
    let p = err_from_is_err_and c.from_residual.result c.from_residual.ensures.1 in
    rw (p.1, p.2) (record {
      exactly = none_asked login (λ asked. IsTrustedKey asked (g.R.Revocations.revokes_key c.args.revocations.now) (key_of c.args.key.now)) _ c.in_err-asked.ensures;
      refused = inl c.in_err-asked.ensures;
      asks = needs_name login _ _ _ c.in_err-asked.ensures;
    })

pub returns-clause-exactly : goal.returns-clause-exactly
returns-clause-exactly g c =
    let hmac = g.H.HostHasher.hmac c.args.hmac.now in
    let login = login_of c.args.login.now hmac in
    let Holds = λ (l : HostCheck). IsTrustedKey l (g.R.Revocations.revokes_key c.args.revocations.now) (key_of c.args.key.now) in
    let asked = subst (IsAsked login.host login.port) (sym c.as_str.ensures) c.in_ok-asked.ensures in
    exactly_asked login c.as_str.result.now asked c.check_asked.result Holds (subst (λ (l : HostCheck). OkExactly (Holds l) c.check_asked.result) (c.under-login.ensures hmac) c.check_asked.ensures.exactly)

pub returns-clause-refused : goal.returns-clause-refused
returns-clause-refused g c =
    let hmac = g.H.HostHasher.hmac c.args.hmac.now in
    let login = login_of c.args.login.now hmac in
    let Why = λ (l : HostCheck). IsWhyNoKey l (g.R.Revocations.revokes_key c.args.revocations.now) (key_of c.args.key.now) in
    let asked = subst (IsAsked login.host login.port) (sym c.as_str.ensures) c.in_ok-asked.ensures in
    why_asked login c.as_str.result.now asked c.check_asked.result Why (subst (λ (l : HostCheck). IfErr c.check_asked.result (Why l)) (c.under-login.ensures hmac) c.check_asked.ensures.refused)

pub returns-clause-asks : goal.returns-clause-asks
returns-clause-asks g c =
    let hmac = g.H.HostHasher.hmac c.args.hmac.now in
    let none = g.R.Revocations.revokes_none c.args.revocations.now in
    let lines = ap (λ (l : HostCheck). l.lines) (c.under-login.ensures hmac) in
    asks_more ⊥ (is_like_address c.args.login.now.host.now ≡ true) (λ nothing. absurd nothing) none _ c.check_asked.result (subst (λ (ls : List (List ℕ)). AsksOf ⊥ none ls c.check_asked.result) lines c.check_asked.ensures.asks)
