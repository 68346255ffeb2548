use Rattle.std.proofs.Common.{None, refl}
use Rattle.std.specs.Prelude.{codes}
use Rattle.login_terms.specs.Examples.{only_pty, permitted, restricted}
use Rattle.login_terms.specs.declared.words.Flag.TheVariants as flag
use Rattle.login_terms.specs.declared.words.Word.TheVariants as word
use Rattle.login_terms.proofs.ExampleLemmas.{says}
use Rattle.login_terms.proofs.examples.again.Goals as goal

pub returns : goal.returns
returns c = (
  says (codes "restrict") None restricted word.Restrict _ refl refl (λ u e. e),
  says (codes "pty") None (permitted only_pty) (word.Allow flag.Pty) _ refl refl (λ u e. e),
  says (codes "no-pty") None (permitted only_pty) (word.Deny flag.Pty) _ refl refl (λ u e. e),
  says (codes "cert-authority") None _ word.CertAuthority _ refl refl (λ u e. e),
)
