use Rattle.std.proofs.Common.{refl, ◌∙◌}
use Rattle.sshkey_calls.proofs.Rooms.{give_one, no_memory}
use Rattle.sshkey_calls.proofs.normal.write_encoded.Goals as goal

pub returns-in-Ok : goal.returns-in-Ok
returns-in-Ok g c = give_one _ _ _ _ _ _ (c.deref.ensures.value ∙ c.in-Ok.ensures.1) c.write_bytes.ensures.written

pub returns-in-Err : goal.returns-in-Err
returns-in-Err g c = no_memory _ _ _ _ _ (refl, refl) refl
