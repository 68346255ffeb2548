use Rattle.ssh_key.proofs.Writing.{encodes_first, encodes_later}
use Rattle.agent.proofs.response.encode_signed.Goals as goal

pub returns-in_err-encode : goal.returns-in_err-encode
returns-in_err-encode g c = encodes_first g.W.Writer.fault _ _ _ _ _ _ c.from_residual.ensures.1 c.in_err-encode.ensures

pub returns : goal.returns
returns g c = encodes_later g.W.Writer.fault _ _ _ _ _ _ c.in_ok-encode.ensures c.encode_prefixed.ensures
