use Rattle.ssh_key.specs.keys.Keys.{key_of}
use Rattle.agent.proofs.Signing.{other_hash, refused_none, refused_one}
use Rattle.agent.proofs.agent_key.AgentKeySigningKey.try_sign.Goals as goal

pub returns-in-Err-clause-refused : goal.returns-in-Err-clause-refused
returns-in-Err-clause-refused g c = refused_none _ (g.V.RawVerifier.accepts c.args.self.now.verifier.now) (key_of c.args.self.now.key) c.args.self.now.flags c.args.message.now _ _ c.in-Err.ensures c.refusal_of.ensures

pub returns-in-Err-verify-clause-refused : goal.returns-in-Err-verify-clause-refused
returns-in-Err-verify-clause-refused g c = refused_one _ (g.V.RawVerifier.accepts c.args.self.now.verifier.now) (key_of c.args.self.now.key) c.args.self.now.flags c.args.message.now _ _ _ c.in-Ok.ensures c.in-Err-verify.ensures.exactly c.refusal_of-in-Err-verify.ensures

pub returns-then-not-is_asked_for-clause-refused : goal.returns-then-not-is_asked_for-clause-refused
returns-then-not-is_asked_for-clause-refused g c = other_hash _ (g.V.RawVerifier.accepts c.args.self.now.verifier.now) (key_of c.args.self.now.key) c.args.self.now.flags c.args.message.now _ c.in-Ok.ensures (λ asked. let is = c.if-not-is_asked_for.ensures.1 (rw c.algorithm.ensures asked) in cc)
