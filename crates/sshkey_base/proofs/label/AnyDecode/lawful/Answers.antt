use Rattle.sshkey_base.proofs.Lawful.{label_lawful}
use Rattle.sshkey_base.proofs.label.AnyDecode.lawful.Goals as goal

pub returns : goal.returns
returns g c = label_lawful g.T.Label.needs c.lawful_label.ensures.checks
