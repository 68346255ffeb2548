use Rattle.std.proofs.Common.{refl, subst}
use Rattle.sshkey_base.specs.Sink.{Encodes}
use Rattle.sshkey_model.specs.Parts.{Parts}
use Rattle.sshkey_public.specs.PublicKeys.{comment_of}
use Rattle.sshkey_private.specs.PrivateKeys.{key_fields}
use Rattle.sshkey_private.proofs.KeyForms.{written_is}
use Rattle.sshkey_private.proofs.private_key.write.PrivateKeyEncode.encode.Goals as goal

pub returns : goal.returns
returns g c =
    let k = c.args.self.now in
    subst (λ (p : Parts). Encodes g.W.Writer.fault p (g.W.Writer.sink c.args.writer.now) c.write_key.result (g.W.Writer.sink c.write_key.new.writer)) (written_is k.checkint (comment_of k.public_key) (key_fields k) k.key_data refl k.form) c.write_key.ensures
