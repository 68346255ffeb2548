use Rattle.sshkey_base.specs.Causes.{cause}
use Rattle.sshkey_base.proofs.FixedWidth.{same_gives_always, fixed_is, fixed_stops}
use Rattle.sshkey_base.proofs.mpint.Mpint.decode_fixed.Goals as goal

pub returns-clause-gives : goal.returns-clause-gives
returns-clause-gives g c = same_gives_always (λ b. b) cause _ _ _ _ _ (fixed_is g.row.SIZE) c.number_from.ensures.gives

pub returns-clause-past : goal.returns-clause-past
returns-clause-past g c = fixed_stops _ _ _ _ (same_gives_always (λ b. b) cause _ _ _ _ _ (fixed_is g.row.SIZE) c.number_from.ensures.gives) c.number_from.ensures.past
