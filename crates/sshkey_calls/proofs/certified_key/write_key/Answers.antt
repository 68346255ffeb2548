use Rattle.std.proofs.Common.{◌∙◌, refl, sym}
use Rattle.sshkey_calls.proofs.Rooms.{none_given, told_as}
use Rattle.sshkey_calls.proofs.certified_key.write_key.Goals as goal

pub returns-in-Ok : goal.returns-in-Ok
returns-in-Ok c =
    let same = c.deref.ensures.value ∙ c.in-Ok.ensures in
    told_as _ _ _ _ _ (λ s is. is ∙ same) (λ s is. is ∙ sym same) c.write_bytes.ensures.written

pub returns : goal.returns
returns c = none_given _ _ _ _ _ (refl, refl) (λ e. cc e) (λ e. cc e) (λ other. absurd (other refl))
