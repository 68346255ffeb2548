use Rattle.std.proofs.Common.{arith, ◌∙◌, ◌-◌, drop, length, take_all}
use Rattle.std.proofs.lemmas.List.{length-drop}
use Rattle.sshkey_keys_ref.proofs.Signatures.{blob_after}
use Rattle.sshkey_keys_ref.proofs.dispatch.blob_in.Goals as goal

pub returns-in_default : goal.returns-in_default
returns-in_default c = λ a x e. absurd (omega (arith, (blob_after a c.args.bytes.now x e).0, c.in_default.len_below))

pub returns-in-len4-up : goal.returns-in-len4-up
returns-in-len4-up c = λ a x e.
    let b = c.args.bytes.now in
    take_all (length b - 4) (drop 4 b) (omega (arith, length-drop 4 b)) ∙ (blob_after a b x e).1
