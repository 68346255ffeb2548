use Rattle.std.proofs.Common.{◌≡◌, ap, arith, length, refl}
use Rattle.sshkey_c.proofs.examples.forced.Goals as goal

pub returns : goal.returns
returns c = λ a. (
  record { permits = refl; within = omega arith; bytes = refl },
  record { permits = refl; within = omega arith; bytes = refl },
  (λ has. let same : 3 ≡ 4 = ap length has.bytes in omega (arith, same)),
  (λ has. omega (arith, has.within)),
  (λ has. omega (arith, has.permits)),
  refl,
  refl,
  refl,
)
