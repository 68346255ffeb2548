use Rattle.std.proofs.Common.{None, refl}
use Rattle.std.specs.Prelude.{codes}
use Rattle.login_terms.specs.Options.{no_terms}
use Rattle.login_terms.specs.declared.words.Flag.TheVariants as flag
use Rattle.login_terms.specs.declared.words.Word.TheVariants as word
use Rattle.login_terms.proofs.ExampleLemmas.{says}
use Rattle.login_terms.proofs.examples.taken.Goals as goal

pub returns : goal.returns
returns c = (
  says (codes "no-port-forwarding") None no_terms (word.Deny flag.PortForwarding) _ refl refl (λ u e. e),
  says (codes "no-agent-forwarding") None no_terms (word.Deny flag.AgentForwarding) _ refl refl (λ u e. e),
  says (codes "no-X11-forwarding") None no_terms (word.Deny flag.X11Forwarding) _ refl refl (λ u e. e),
  says (codes "no-pty") None no_terms (word.Deny flag.Pty) _ refl refl (λ u e. e),
  says (codes "NO-USER-RC") None no_terms (word.Deny flag.UserRc) _ refl refl (λ u e. e),
  says (codes "no-touch-required") None no_terms (word.Deny flag.TouchRequired) _ refl refl (λ u e. e),
  says (codes "no-verify-required") None _ (word.Deny flag.VerifyRequired) _ refl refl (λ u e. e),
  says (codes "restrict") None no_terms word.Restrict _ refl refl (λ u e. e),
)
