use Rattle.std.proofs.Common.{refl, sym, arith}
use Rattle.allowed_signers.proofs.ExampleLemmas.{never}
use Rattle.allowed_signers.proofs.examples.verdicts.Goals as goal

pub returns : goal.returns
returns c = (
  λ signers allowed. (
    record { identity_given = λ e. cc e; allowed = allowed; unrevoked = refl; signed = record { verified = record { same_key = refl; same_namespace = refl; accepted = refl }; nothing_reserved = refl } },
    λ counts. never (sym counts.unrevoked),
    λ counts. never counts.signed.verified.accepted,
  ),
  λ counts. omega (arith, counts.allowed.2),
  λ signers counts. counts.identity_given refl,
)
