use Rattle.sshkey_keys_ref.proofs.WalkedBodies.{front_is, leaves}
use Rattle.sshkey_keys_ref.proofs.body.take_body.Goals as goal

pub slice_bounds-result-count : goal.slice_bounds-result-count
slice_bounds-result-count c = leaves c.in_ok-rest.ensures.spelled

pub returns-clause-front : goal.returns-clause-front
returns-clause-front c = record { key = c.in_ok-rest.ensures.rest.0; taken = c.in_ok-rest.ensures.rest.1; all = (front_is c.in_ok-rest.ensures.spelled).all }

pub returns-clause-spelled : goal.returns-clause-spelled
returns-clause-spelled c = front_is c.in_ok-rest.ensures.spelled
