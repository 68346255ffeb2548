use Rattle.sshkey_base.proofs.Accepted.{accepts_beginning}
use Rattle.sshkey_base.proofs.decode.decode_front.Goals as goal

pub returns-clause-accepts : goal.returns-clause-accepts
returns-clause-accepts g c = accepts_beginning g.T.Decode.means _ g.T.Decode.format c.lawful.ensures _ _ _ c.decode.ensures.gives
