use Rattle.std.proofs.Common.{ℕ, List, sym, subst}
use Rattle.sshkey_entries.specs.HostVerdicts.{known_name}
use Rattle.sshkey_keys.specs.Keys.{key_of}
use Rattle.sshkey_known_hosts.specs.Verdicts.{IsVerdict}
use Rattle.host_keys.proofs.SeveralTexts.{all_lines, more_lines, of_error, some_line}
use Rattle.host_keys.proofs.texts.verdict_of_all.Goals as goal

pub returns-in_err-key_verdict-clause-asks : goal.returns-in_err-key_verdict-clause-asks
returns-in_err-key_verdict-clause-asks g c = of_error c.from_residual.result (some_line c.args.texts.now c.loop-text.text-index _ c.loop-text-test.true c.in_err-key_verdict.ensures.asks)

pub loop-text-preserved : goal.loop-text-preserved
loop-text-preserved g c =
    let hmac = g.H.HostHasher.hmac c.args.hmac.now in
    let name = known_name c.args.host.now c.args.port in
    let key = key_of c.args.key.now in
    subst (λ (lines : List (List ℕ)). IsVerdict hmac name key lines c.max_severity-found.result) (sym (more_lines c.args.texts.now c.loop-text.text-index _ c.loop-text-test.true))
    (c.max_severity-found.ensures.together hmac name key _ _ c.loop-text.invariant c.in_ok-key_verdict.ensures.answer)

pub returns-clause-answer : goal.returns-clause-answer
returns-clause-answer g c =
    subst (λ (lines : List (List ℕ)). IsVerdict (g.H.HostHasher.hmac c.args.hmac.now) (known_name c.args.host.now c.args.port) (key_of c.args.key.now) lines c.loop-text.found) (all_lines c.args.texts.now c.loop-text.text-index c.loop-text-test.false) c.loop-text.invariant
