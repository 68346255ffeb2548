use Rattle.std.proofs.Common.{codes, refl}
use Rattle.allowed_signers.proofs.examples.values.Goals as goal

pub returns : goal.returns
returns c = (
  (refl, refl),
  (refl, refl),
  λ t a. let e = a.0 in cc,
  (codes "file", refl, refl, refl),
  λ t a. let e = a.1 in cc,
  λ t a. let e = a.2 in cc,
  λ text n is. (n, is, refl, refl),
  λ text n is. (n, is, refl, refl),
  λ t a. a.1,
  λ text t a. let e = a.2 in cc,
  λ text t a. let e = a.2 in cc,
)
