use Rattle.sshkey_entries.proofs.OtherKeys.{then_on}
use Rattle.sshkey_entries.proofs.other_key.is_read_to_end.Goals as goal

pub pieces-preserved : goal.pieces-preserved
pieces-preserved g c = (_, then_on _ _ _ _ _ c.pieces.invariant.1 c.in-Ok.ensures.takes)
