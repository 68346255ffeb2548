use Rattle.sshkey_base.specs.Names.{curve_of}
use Rattle.sshkey_keys.proofs.Bodies.{unwanted_stopped}
use Rattle.sshkey_keys.proofs.key_data.ecdsa_from.Goals as goal

pub returns-then-not-is_on-clause-past : goal.returns-then-not-is_on-clause-past
returns-then-not-is_on-clause-past g c = unwanted_stopped _ (curve_of c.args.curve) (g.R.Reader.source c.args.reader.now) _ _ _ c.in_ok-key.ensures.gives (let h = c.if-not-is_on.true in let r = c.is_on.ensures in cc)
