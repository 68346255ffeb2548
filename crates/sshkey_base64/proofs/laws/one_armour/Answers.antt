use Rattle.sshkey_base64.proofs.ArmourBodies.{one_armour}
use Rattle.sshkey_base64.proofs.laws.one_armour.Goals as goal

pub returns : goal.returns
returns c = one_armour
