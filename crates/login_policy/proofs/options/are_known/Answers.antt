use Rattle.std.proofs.Common.{◌≡◌, ap, map, true}
use Rattle.sshkey_cert_values.specs.CertificateFields.{option_of}
use Rattle.login_policy.specs.KnownOptions.{IsKnownOption}
use Rattle.login_policy.proofs.KnownOptions.{passed, stopped}
use Rattle.login_policy.proofs.options.are_known.Goals as goal

pub loop-name-preserved : goal.loop-name-preserved
loop-name-preserved c = (tt, tt, passed IsKnownOption _ _ _ _ c.loop-name.invariant.2 (ap (map option_of) c.in-Some.ensures.steps) (rw (c.deref.ensures, c.deref-in-loop-name.ensures) at (c.is_known.ensures.0 c.if-not-is_known.false)))

pub returns-then-not-is_known : goal.returns-then-not-is_known
returns-then-not-is_known c = (λ yes. absurd cc, λ all. absurd (stopped IsKnownOption _ _ _ _ c.loop-name.invariant.2 (ap (map option_of) c.in-Some.ensures.steps) (λ one. let yes : c.is_known.result ≡ true = c.is_known.ensures.1 (rw (c.deref.ensures, c.deref-in-loop-name.ensures) one) in absurd cc) all))
