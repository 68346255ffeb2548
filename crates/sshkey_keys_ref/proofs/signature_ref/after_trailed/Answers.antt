use Rattle.sshkey_base.specs.Causes.{cause}
use Rattle.sshkey_model.specs.Signatures.{string_from}
use Rattle.sshkey_keys_ref.specs.KeyBytes.{named_of}
use Rattle.sshkey_keys_ref.proofs.WalkedBodies.{skips_trailed}
use Rattle.sshkey_keys_ref.proofs.signature_ref.after_trailed.Goals as goal

pub returns : goal.returns
returns c = skips_trailed (λ x. x.now) (λ t. t.now) (string_from (named_of c.args.name.now)) (λ _. c.in_ok-string.string.now) cause _ _ _ _ _ _ c.in_ok-string.ensures.gives c.in_ok-bytes_from.ensures.gives c.in_ok-check.ensures
