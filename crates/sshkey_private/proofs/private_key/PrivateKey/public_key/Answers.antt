use Rattle.std.proofs.Common.{subst, sym}
use Rattle.sshkey_pairs.specs.Keypairs.{pair_of}
use Rattle.sshkey_model.specs.Keys.{Key, IsKey}
use Rattle.sshkey_private.specs.PrivateKeys.{key_fields, private_of}
use Rattle.sshkey_private.proofs.KeyForms.{of_formed, public_is}
use Rattle.sshkey_private.proofs.private_key.PrivateKey.public_key.Goals as goal

pub returns-clause-value : goal.returns-clause-value
returns-clause-value c = public_is _ _ (key_fields c.args.self.now) (pair_of c.args.self.now.key_data) c.args.self.now.form

pub returns-clause-form : goal.returns-clause-form
returns-clause-form c = λ is. subst (λ (k : Key). IsKey k) (sym (returns-clause-value c)) (of_formed (private_of c.args.self.now) is)
