use Rattle.std.proofs.Common.{◌++◌, sym, subst}
use Rattle.sshkey_known_hosts.specs.Verdicts.{IsVerdict}
use Rattle.sshkey_known_hosts.specs.declared.verdict.Verdict.{Verdict}
use Rattle.sshkey_known_hosts.proofs.Verdicts.{both}
use Rattle.sshkey_known_hosts.proofs.verdict.Verdict.max_severity.Goals as goal

pub returns-clause-together : goal.returns-clause-together
returns-clause-together c hmac name key lines others first second =
    subst (λ (v : Verdict). IsVerdict hmac name key (lines ++ others) v) (sym c.max_severity.ensures) (both hmac name key lines others c.args.self c.args.other first second)
