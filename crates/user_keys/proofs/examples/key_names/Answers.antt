use Rattle.std.proofs.Common.{codes, inl, inr, refl}
use Rattle.sshkey_model.specs.Names.{named}
use Rattle.user_keys.specs.LoginExamples.{other}
use Rattle.user_keys.proofs.ExampleLemmas.{not_name}
use Rattle.user_keys.proofs.examples.key_names.Goals as goal

pub returns : goal.returns
unfolding named
returns c = (
  inl refl,
  inr (inl refl),
  inr (inl refl),
  inr (inl refl),
  inr (inr (inl (inl refl))),
  inr (inr (inl (inr refl))),
  inr (inr (inr (inr (inr (inr (inl refl)))))),
  inr (inr (inr (inr (inr (inr (inr (inl refl))))))),
  inl refl,
  not_name other (codes "ssh-xmss@openssh.com") refl refl refl refl refl,
  not_name other (codes "//ssh-ed25519") refl refl refl refl refl,
  not_name other (codes "ssh-ed25519-cert-v01@openssh.com") refl refl refl refl refl,
  not_name other (codes "") refl refl refl refl refl,
)
