use Rattle.std.proofs.Common.{refl, ◌∙◌}
use Rattle.sshkey_keys.specs.Keys.{key_of}
use Rattle.sshkey_calls.proofs.Rooms.{give_one, no_memory}
use Rattle.sshkey_calls.proofs.normal.write_key.Goals as goal

pub returns-in-Some-clause-normal : goal.returns-in-Some-clause-normal
returns-in-Some-clause-normal c =
    let k = c.requires in
    (k.0, k.1, give_one _ _ _ _ _ _ (c.in-Some.ensures.0 ∙ c.in-Some.ensures.1 k.0 k.1) c.write_bytes.ensures.written)

pub returns-in-Some-clause-memory : goal.returns-in-Some-clause-memory
returns-in-Some-clause-memory c one = absurd (c.write_bytes.ensures.memory one)

pub returns-in-Ok-clause-normal : goal.returns-in-Ok-clause-normal
returns-in-Ok-clause-normal c = (key_of c.in-Ok.key, c.in-Ok.ensures.spelled, c.write_encoded.ensures)

pub returns-clause-normal : goal.returns-clause-normal
returns-clause-normal c = (c.requires.0, c.requires.1, no_memory _ _ _ _ _ (refl, refl) refl)
