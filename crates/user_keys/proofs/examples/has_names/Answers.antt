use Rattle.std.proofs.Common.{arith, codes, inl, inr, refl}
use Rattle.sshkey_entries.specs.Fields.{without_front, is_inside}
use Rattle.sshkey_entries.specs.Items.{is_odd}
use Rattle.sshkey_model.specs.Names.{named}
use Rattle.user_keys.specs.LoginExamples.{other}
use Rattle.user_keys.proofs.Lines.{behind, nowhere}
use Rattle.user_keys.proofs.ExampleLemmas.{ends_at, never_ends, not_name}
use Rattle.user_keys.proofs.examples.has_names.Goals as goal

pub returns : goal.returns
unfolding is_inside is_odd named without_front
returns c = (
  inl (inl refl),
  inr (13, ends_at (codes "command=\"a b\" \tED25519 AAAA") 13 (omega arith) refl refl refl, inr (inr (inr (inr (inr (inr (inl refl))))))),
  (λ has. not_name other (codes "AAAA") refl refl refl refl refl ((behind other (codes ";ssh-ed25519 AAAA") (not_name other (codes ";ssh-ed25519") refl refl refl refl refl) (codes ";ssh-ed25519") (codes " AAAA") (codes "AAAA") refl (ends_at (codes ";ssh-ed25519 AAAA") 12 (omega arith) refl refl refl) refl).1 has)),
  (λ has. not_name other (codes "no-user-rc") refl refl refl refl refl ((behind other (codes "no-pty, no-user-rc ssh-ed25519 AAAA") (not_name other (codes "no-pty,") refl refl refl refl refl) (codes "no-pty,") (codes " no-user-rc ssh-ed25519 AAAA") (codes "no-user-rc ssh-ed25519 AAAA") refl (ends_at (codes "no-pty, no-user-rc ssh-ed25519 AAAA") 7 (omega arith) refl refl refl) refl).1 has)),
  (λ has. not_name other (codes "x") refl refl refl refl refl ((behind other (codes "command=\"a\" x ssh-ed25519 AAAA") (not_name other (codes "command=\"a\"") refl refl refl refl refl) (codes "command=\"a\"") (codes " x ssh-ed25519 AAAA") (codes "x ssh-ed25519 AAAA") refl (ends_at (codes "command=\"a\" x ssh-ed25519 AAAA") 11 (omega arith) refl refl refl) refl).1 has)),
  nowhere other (codes "\"\\\" ssh-ed25519 AAAA") (not_name other (codes "\"\\\"") refl refl refl refl refl) (never_ends (codes "\"\\\" ssh-ed25519 AAAA") refl),
)
