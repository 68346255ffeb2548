use Rattle.sshkey_base.proofs.Places.{later_then}
use Rattle.sshkey_keys_ref.proofs.kinds.DsaRefReadFromRefSliceU8.read_from.Goals as goal

pub returns-in_err-y-clause-later : goal.returns-in_err-y-clause-later
returns-in_err-y-clause-later c = later_then _ _ _ c.read_from.ensures.later (later_then _ _ _ c.read_from-2.ensures.later (later_then _ _ _ c.read_from-3.ensures.later c.read_from-4.ensures.later))

pub returns-clause-later : goal.returns-clause-later
returns-clause-later c = later_then _ _ _ c.read_from.ensures.later (later_then _ _ _ c.read_from-2.ensures.later (later_then _ _ _ c.read_from-3.ensures.later c.read_from-4.ensures.later))
