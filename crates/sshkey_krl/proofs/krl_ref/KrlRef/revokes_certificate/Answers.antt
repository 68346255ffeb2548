use Rattle.sshkey_krl.specs.KrlRef.{krl_of}
use Rattle.sshkey_krl.proofs.Krls.{certificate_said}
use Rattle.sshkey_krl.proofs.krl_ref.KrlRef.revokes_certificate.Goals as goal

pub returns : goal.returns
returns c = certificate_said (krl_of c.args.self.now) c.args.key.now c.args.signature_key.now c.args.serial c.args.key_id.now _ _ c.about_certificate.ensures c.answers.ensures
