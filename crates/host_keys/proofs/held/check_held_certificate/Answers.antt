use denote.Ref.{Bor}
use Rattle.std.proofs.Common.{◌≡◌, ◌≢◌, ◌∙◌, IfErr, List, ℕ, ap, subst}
use Rattle.std.proofs.lemmas.Result.{err_from_is_err_and}
use Rattle.openssh_limits.specs.Padding.{padding}
use Rattle.host_keys.specs.Answers.{KnownExactly, RefusesHostCertificate}
use Rattle.host_keys.specs.Hosts.{held_login, HostCheck, IsHostCertificate, lines_of, login_of}
use Rattle.host_keys.specs.declared.refusal.HostRefusal.{HostRefusal}
use Rattle.host_keys.specs.declared.refusal.HostRefusal.TheVariants as refusal
use Rattle.host_keys.proofs.HostKeys.{known_as}
use Rattle.host_keys.proofs.SameAnswers.{host_from, host_to, refuses_certificate}
use Rattle.host_keys.proofs.held.check_held_certificate.Goals as goal

pub returns-in_err-texts : goal.returns-in_err-texts
returns-in_err-texts g c =
    let p = err_from_is_err_and c.from_residual.result c.from_residual.ensures.1 in
    let ran_out = c.in_err-texts.ensures.memory in
    rw (p.1, p.2) (record {
      exactly = λ other by is. other ran_out.0;
      refused = λ other. absurd (other ran_out.0);
    })

pub returns-clause-exactly : goal.returns-clause-exactly
returns-clause-exactly g c =
    let hmac = g.H.HostHasher.hmac c.args.hmac.now in
    let login = held_login c.args.login.now c.args.held.now hmac in
    let accepts = padding (g.V.RawVerifier.accepts c.args.verifier.now) in
    let revokes = g.R.Revocations.revokes c.args.revocations.now in
    let revokes_key = g.R.Revocations.revokes_key c.args.revocations.now in
    let blob = c.args.certificate.now in
    let lines = lines_of c.in_ok-texts.texts.items in
    let same = c.in_ok-texts.ensures.same hmac in
    let by : login_of c.by.result hmac ≡ record login { lines = lines } = c.by.ensures hmac ∙ ap (λ (t : List (Bor (List ℕ))). record login { lines = lines_of t }) c.deref.ensures.value in
    known_as (IsHostCertificate (record login { lines = lines }) accepts revokes revokes_key blob) (IsHostCertificate login accepts revokes revokes_key blob) c.check_certificate.result
    (host_from login lines same accepts revokes revokes_key blob) (host_to login lines same accepts revokes revokes_key blob)
    (subst (λ (l : HostCheck). KnownExactly (IsHostCertificate l accepts revokes revokes_key blob) c.check_certificate.result) by c.check_certificate.ensures.exactly)

pub returns-clause-refused : goal.returns-clause-refused
returns-clause-refused g c =
    let hmac = g.H.HostHasher.hmac c.args.hmac.now in
    let login = held_login c.args.login.now c.args.held.now hmac in
    let accepts = padding (g.V.RawVerifier.accepts c.args.verifier.now) in
    let revokes = g.R.Revocations.revokes c.args.revocations.now in
    let revokes_key = g.R.Revocations.revokes_key c.args.revocations.now in
    let blob = c.args.certificate.now in
    let lines = lines_of c.in_ok-texts.texts.items in
    let same = c.in_ok-texts.ensures.same hmac in
    let by : login_of c.by.result hmac ≡ record login { lines = lines } = c.by.ensures hmac ∙ ap (λ (t : List (Bor (List ℕ))). record login { lines = lines_of t }) c.deref.ensures.value in
    refuses_certificate login lines same accepts revokes revokes_key blob c.check_certificate.result
    (subst (λ (l : HostCheck). IfErr c.check_certificate.result (λ (r : HostRefusal). r ≢ refusal.Memory → RefusesHostCertificate l accepts revokes revokes_key blob r)) by c.check_certificate.ensures.refused)
