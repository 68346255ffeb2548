use Rattle.std.proofs.Common.{ℕ, List}
use Rattle.sshkey_keys.specs.Keys.{key_of}
use Rattle.host_keys.specs.Hosts.{IsVerdictOfSigned, lines_of}
use Rattle.host_keys.proofs.HostKeys.{settled}
use Rattle.host_keys.proofs.verdict.signed_verdict.Goals as goal

pub returns-then-is_settled-clause-answer : goal.returns-then-is_settled-clause-answer
returns-then-is_settled-clause-answer g c =
    settled (λ (name : List ℕ). IsVerdictOfSigned (g.H.HostHasher.hmac c.args.hmac.now) name (key_of c.args.key.now) (key_of c.args.signer.now) (lines_of c.args.texts.now)) c.args.host.now c.args.port _
    (c.is_settled.ensures.0 c.if-is_settled.true) c.in_ok-verdict.ensures.answer
