use Rattle.std.proofs.lemmas.List.{append_assoc}
use Rattle.sshkey_fingerprints.proofs.random_art.Walk.take.Goals as goal

pub returns : goal.returns
returns c = λ taken walk.
    let all = c.step-4.ensures _ (c.step-3.ensures _ (c.step-2.ensures _ (c.step.ensures taken walk))) in
    simp append_assoc at all
