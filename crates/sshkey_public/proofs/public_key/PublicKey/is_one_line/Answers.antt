use Rattle.sshkey_model.specs.Keys.{normal_key}
use Rattle.sshkey_model.specs.Parts.{flat}
use Rattle.sshkey_public.specs.PublicKeys.{public_of}
use Rattle.sshkey_public.proofs.public_key.PublicKey.is_one_line.Goals as goal

pub returns : goal.returns
returns c = rw (c.algorithm_name.ensures, c.comment.ensures) at c.makes_one_line.ensures (flat (normal_key (public_of c.args.self.now)))
