use Rattle.std.proofs.Common.{◌++◌, ◌∙◌, List, ap, replicate, subst, sym, ℕ}
use Rattle.sshkey_base.specs.Names.{algorithm_of}
use Rattle.sshkey_keys.specs.Asked.{IsAsked}
use Rattle.sshkey_keys.specs.Keys.{key_of}
use Rattle.openssh_limits.proofs.PaddedQuestions.{still_asked}
use Rattle.openssh_limits.proofs.padding.PaddingRawVerifier.verify.Goals as goal

pub verify-requires-2 : goal.verify-requires-2
verify-requires-2 g c =
    let asked = still_asked (algorithm_of c.args.algorithm.now) (key_of c.args.key.now) c.args.message.now c.args.signature.now c.requires in
    let same = c.room_with-room.ensures ∙ ap (λ (n : ℕ). replicate n 0 ++ c.args.signature.now) c.missing_zeros-zeros.ensures.is in
    subst (λ (blob : List ℕ). IsAsked (record { algorithm = algorithm_of c.args.algorithm.now; key = key_of c.args.key.now; message = c.args.message.now; blob = blob })) (sym same) asked
