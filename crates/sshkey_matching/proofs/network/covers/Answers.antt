use Rattle.sshkey_matching.proofs.AddressTexts.{judged}
use Rattle.sshkey_matching.proofs.network.covers.Goals as goal

pub returns : goal.returns
returns c = judged c.args.text.now _ _ c.args.address c.contains.result c.in-Some.ensures c.contains.ensures
