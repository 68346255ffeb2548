use Rattle.std.proofs.Common.{◌≡◌, ap, map, true}
use Rattle.sshkey_cert_values.specs.CertificateFields.{option_of}
use Rattle.login_policy.specs.KnownOptions.{IsPlainExtension}
use Rattle.login_policy.proofs.KnownOptions.{passed, stopped}
use Rattle.login_policy.proofs.options.are_plain.Goals as goal

pub loop-name-preserved : goal.loop-name-preserved
loop-name-preserved c = (tt, tt, passed IsPlainExtension _ _ _ _ c.loop-name.invariant.2 (ap (map option_of) c.in-Some.ensures.steps) (rw (c.deref.ensures, c.deref-in-loop-name.ensures) at (c.is_plain.ensures.0 c.if-not-is_plain.false)))

pub returns-then-not-is_plain : goal.returns-then-not-is_plain
returns-then-not-is_plain c = (λ yes. absurd cc, λ all. absurd (stopped IsPlainExtension _ _ _ _ c.loop-name.invariant.2 (ap (map option_of) c.in-Some.ensures.steps) (λ one. let yes : c.is_plain.result ≡ true = c.is_plain.ensures.1 (rw (c.deref.ensures, c.deref-in-loop-name.ensures) one) in absurd cc) all))
