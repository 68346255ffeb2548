use Rattle.std.proofs.Common.{codes, refl}
use Rattle.allowed_signers.proofs.ExampleLemmas.{differ, never}
use Rattle.allowed_signers.proofs.examples.signed.Goals as goal

pub returns : goal.returns
returns c = (
  record { verified = record { same_key = refl; same_namespace = refl; accepted = refl }; nothing_reserved = refl },
  λ h. never h.verified.accepted,
  λ h. differ (codes "file") (codes "git") refl h.verified.same_namespace,
  λ h. let e = h.nothing_reserved in cc,
)
