use denote.Ref.{Bor}
use Rattle.std.proofs.Common.{◌≡◌, ◌∙◌, IfErr, List, ℕ, ap, subst}
use Rattle.std.proofs.lemmas.Result.{err_from_is_err_and}
use Rattle.sshkey_keys.specs.Keys.{key_of}
use Rattle.host_keys.specs.Answers.{OkExactly, RefusesHostKey}
use Rattle.host_keys.specs.Hosts.{held_login, HostCheck, IsHostKey, lines_of, login_of}
use Rattle.host_keys.proofs.HostKeys.{as_much}
use Rattle.host_keys.proofs.SameAnswers.{host_key_from, host_key_to, key_memory, refuses_key}
use Rattle.host_keys.proofs.held.check_held_key.Goals as goal

pub returns-in_err-texts : goal.returns-in_err-texts
returns-in_err-texts g c =
    let p = err_from_is_err_and c.from_residual.result c.from_residual.ensures.1 in
    let ran_out = c.in_err-texts.ensures.memory in
    rw (p.1, p.2) (record {
      exactly = λ other. absurd (other ran_out.0);
      refused = key_memory (held_login c.args.login.now c.args.held.now (g.H.HostHasher.hmac c.args.hmac.now)) (g.R.Revocations.revokes_key c.args.revocations.now) (key_of c.args.key.now) _ ran_out.0 ran_out.1;
    })

pub returns-clause-exactly : goal.returns-clause-exactly
returns-clause-exactly g c =
    let hmac = g.H.HostHasher.hmac c.args.hmac.now in
    let login = held_login c.args.login.now c.args.held.now hmac in
    let revokes_key = g.R.Revocations.revokes_key c.args.revocations.now in
    let key = key_of c.args.key.now in
    let lines = lines_of c.in_ok-texts.texts.items in
    let same = c.in_ok-texts.ensures.same hmac in
    let by : login_of c.by.result hmac ≡ record login { lines = lines } = c.by.ensures hmac ∙ ap (λ (t : List (Bor (List ℕ))). record login { lines = lines_of t }) c.deref.ensures.value in
    as_much c.check_key.result (host_key_from login lines same revokes_key key) (host_key_to login lines same revokes_key key)
    (subst (λ (l : HostCheck). OkExactly (IsHostKey l revokes_key key) c.check_key.result) by c.check_key.ensures.exactly)

pub returns-clause-refused : goal.returns-clause-refused
returns-clause-refused g c =
    let hmac = g.H.HostHasher.hmac c.args.hmac.now in
    let login = held_login c.args.login.now c.args.held.now hmac in
    let revokes_key = g.R.Revocations.revokes_key c.args.revocations.now in
    let key = key_of c.args.key.now in
    let lines = lines_of c.in_ok-texts.texts.items in
    let same = c.in_ok-texts.ensures.same hmac in
    let by : login_of c.by.result hmac ≡ record login { lines = lines } = c.by.ensures hmac ∙ ap (λ (t : List (Bor (List ℕ))). record login { lines = lines_of t }) c.deref.ensures.value in
    refuses_key login lines same revokes_key key c.check_key.result (subst (λ (l : HostCheck). IfErr c.check_key.result (RefusesHostKey l revokes_key key)) by c.check_key.ensures.refused)
