use Rattle.std.proofs.Common.{refl, subst}
use Rattle.sshkey_base.specs.Sink.{Measures}
use Rattle.sshkey_model.specs.Parts.{Parts}
use Rattle.sshkey_public.specs.PublicKeys.{comment_of}
use Rattle.sshkey_private.specs.PrivateKeys.{key_fields}
use Rattle.sshkey_private.proofs.KeyForms.{written_is}
use Rattle.sshkey_private.proofs.private_key.write.PrivateKeyEncode.encoded_len.Goals as goal

pub returns-clause-measures : goal.returns-clause-measures
returns-clause-measures c =
    let k = c.args.self.now in
    subst (λ (p : Parts). Measures p c.key_len.result) (written_is k.checkint (comment_of k.public_key) (key_fields k) k.key_data refl k.form) c.key_len.ensures.measures
