use Rattle.std.proofs.Common.{None, refl}
use Rattle.std.specs.Prelude.{codes}
use Rattle.login_terms.specs.Examples.{restricted}
use Rattle.login_terms.specs.declared.words.Flag.TheVariants as flag
use Rattle.login_terms.specs.declared.words.Word.TheVariants as word
use Rattle.login_terms.proofs.ExampleLemmas.{says}
use Rattle.login_terms.proofs.examples.given.Goals as goal

pub returns : goal.returns
returns c = (
  says (codes "port-forwarding") None restricted (word.Allow flag.PortForwarding) _ refl refl (λ u e. e),
  says (codes "agent-forwarding") None restricted (word.Allow flag.AgentForwarding) _ refl refl (λ u e. e),
  says (codes "x11-forwarding") None restricted (word.Allow flag.X11Forwarding) _ refl refl (λ u e. e),
  says (codes "pty") None restricted (word.Allow flag.Pty) _ refl refl (λ u e. e),
  says (codes "user-rc") None restricted (word.Allow flag.UserRc) _ refl refl (λ u e. e),
  says (codes "touch-required") None _ (word.Allow flag.TouchRequired) _ refl refl (λ u e. e),
  says (codes "verify-required") None restricted (word.Allow flag.VerifyRequired) _ refl refl (λ u e. e),
  says (codes "cert-authority") None restricted word.CertAuthority _ refl refl (λ u e. e),
  says (codes "restrict") None _ word.Restrict _ refl refl (λ u e. e),
)
