use Rattle.std.proofs.Common.{Bool, Ok, ap}
use Rattle.user_keys.proofs.Places.{decided}
use Rattle.user_keys.proofs.place.lets_from_at.Goals as goal

pub returns-in-Ok-true : goal.returns-in-Ok-true
returns-in-Ok-true c = decided c.args.list.now c.args.host c.args.address _ _ c.in-Ok-true.ensures (ap (λ (b : Bool). Ok b) c.in-Ok-true.field-0-test)

pub returns-in-Ok-false : goal.returns-in-Ok-false
returns-in-Ok-false c = decided c.args.list.now c.args.host c.args.address _ _ c.in-Ok-false.ensures (ap (λ (b : Bool). Ok b) c.in-Ok-false.field-0-test)
