use Rattle.std.proofs.Common.{◌≡◌, suc, arith}
use Rattle.sshkey_base.proofs.FixedWidth.{after_length}
use Rattle.sshkey_base.proofs.mpint.fixed_width.number_from.Goals as goal

pub returns-then-len-clause-gives : goal.returns-then-len-clause-gives
returns-then-len-clause-gives g c = after_length g.row.SIZE c.in_ok-len.len _ _ _ _ c.in_ok-len.ensures.gives (omega (arith, c.if-len.true)) c.digits_from.ensures.gives

pub returns-clause-gives : goal.returns-clause-gives
returns-clause-gives g c =
    let one : c.in_ok-len.len ≡ suc g.row.SIZE = omega (arith, c.if-len.false, c.if-len-gt1.false) in
    after_length g.row.SIZE c.in_ok-len.len _ _ _ _ c.in_ok-len.ensures.gives (omega arith) (rw (← one) at c.signed_from.ensures.gives)
