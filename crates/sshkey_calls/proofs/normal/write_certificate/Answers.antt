use Rattle.std.proofs.Common.{◌≡◌, refl, subst}
use Rattle.sshkey_model.specs.Certificates.{Certificate, normal_certificate}
use Rattle.sshkey_model.specs.Parts.{flat}
use Rattle.sshkey_calls.specs.Writing.{WritesContent}
use Rattle.sshkey_calls.proofs.Rooms.{no_memory}
use Rattle.sshkey_calls.proofs.normal.write_certificate.Goals as goal

pub returns-in-Ok : goal.returns-in-Ok
returns-in-Ok c = subst (λ (x : Certificate). WritesContent (λ it. it ≡ flat (normal_certificate x)) c.write_encoded.result c.args.length.now c.write_encoded.new.length c.args.room.now c.write_encoded.new.room) c.in-Ok.ensures.value c.write_encoded.ensures

pub returns : goal.returns
returns c = no_memory _ _ _ _ _ (refl, refl) refl
