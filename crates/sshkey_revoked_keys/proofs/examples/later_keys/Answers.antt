use Rattle.std.proofs.Common.{◌≡◌, ◌≢◌, ℕ, List, length, ap, arith, bytes_eq, codes, false, refl}
use Rattle.sshkey_model.specs.Parts.{flat}
use Rattle.sshkey_revoked_keys.proofs.LaterKeys.{front_is, unlike}
use Rattle.sshkey_revoked_keys.specs.RevokedKeys.{IsLaterKey, later_blob, later_name}
use Rattle.sshkey_revoked_keys.proofs.examples.later_keys.Goals as goal

other_size : (own word : List ℕ) → length own ≢ 1344 → ¬ IsLaterKey later_name word (later_blob own)
unfolding flat
other_size own word other is = other (omega (arith, ap length is.is, is.size))

other_name : (name word blob : List ℕ) → bytes_eq name later_name ≡ false → ¬ IsLaterKey name word blob
other_name name word blob other is = unlike name later_name is.named other

pub returns : goal.returns
unfolding flat
returns c = (
  refl,
  (λ own size. front_is own size),
  (λ own size bytes. record { own = own; named = refl; size = size; is = refl; bytes = bytes; spelled = refl }),
  (λ own word size. other_size own word (λ is. omega (arith, size, is))),
  (λ own word size. other_size own word (λ is. omega (arith, size, is))),
  (λ word blob. other_name (codes "ssh-mldsa65-ed25519") word blob refl),
  (λ word blob. other_name (codes "ssh-ed25519") word blob refl),
)
