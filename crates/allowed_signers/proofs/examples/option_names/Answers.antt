use Rattle.std.proofs.Common.{codes, inl, inr, refl}
use Rattle.allowed_signers.specs.AllowedSigners.{words}
use Rattle.allowed_signers.proofs.ExampleLemmas.{no_name, other_name}
use Rattle.allowed_signers.proofs.examples.option_names.Goals as goal

pub returns : goal.returns
returns c = (
  inl (refl, refl),
  inr (other_name (codes "Namespaces") (codes "cert-authority") refl, inl (refl, refl)),
  inr (other_name (codes "valid-AFTER") (codes "cert-authority") refl, inr (other_name (codes "valid-AFTER") (codes "namespaces") refl, inl (refl, refl))),
  inr (other_name (codes "valid-before") (codes "cert-authority") refl, inr (other_name (codes "valid-before") (codes "namespaces") refl, inr (other_name (codes "valid-before") (codes "valid-after") refl, inl (refl, refl)))),
  no_name words (codes "valid_before") refl,
  no_name words (codes "touch-required") refl,
)
