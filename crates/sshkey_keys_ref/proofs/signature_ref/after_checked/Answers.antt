use Rattle.sshkey_base.specs.Causes.{cause}
use Rattle.sshkey_model.specs.Reading.{string_at}
use Rattle.sshkey_model.specs.Signatures.{string_from}
use Rattle.sshkey_keys_ref.specs.KeyBytes.{named_of}
use Rattle.sshkey_keys_ref.proofs.WalkedBodies.{skips_checked}
use Rattle.sshkey_keys_ref.proofs.signature_ref.after_checked.Goals as goal

pub returns : goal.returns
returns c = skips_checked (λ x. x.now) string_at (string_from (named_of c.args.name.now)) (λ _. c.in_ok-string.string.now) cause _ _ _ _ c.in_ok-string.ensures.gives c.in_ok-check.ensures
