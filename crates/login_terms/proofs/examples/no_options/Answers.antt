use Rattle.std.proofs.Common.{[], None, Some, refl}
use Rattle.std.specs.Prelude.{codes}
use Rattle.login_terms.specs.Options.{no_terms}
use Rattle.login_terms.specs.declared.words.Flag.TheVariants as flag
use Rattle.login_terms.specs.declared.words.Word.TheVariants as word
use Rattle.login_terms.proofs.ExampleLemmas.{refuses, unknown}
use Rattle.login_terms.proofs.examples.no_options.Goals as goal

pub returns : goal.returns
returns c = (
  unknown (codes "no-restrict") None no_terms refl,
  unknown (codes "no-cert-authority") None no_terms refl,
  unknown (codes "permit-pty") None no_terms refl,
  refuses (codes "command") None no_terms word.Command refl (λ t is. is) (λ m. m),
  refuses (codes "expiry-time") None no_terms word.ExpiryTime refl (λ t is. is) (λ m. m),
  refuses (codes "tunnel") None no_terms word.Tunnel refl (λ t is. is) (λ m. m),
  refuses (codes "pty") (Some []) no_terms (word.Allow flag.Pty) refl (λ t is. is) (λ m. m),
  refuses (codes "restrict") (Some []) no_terms word.Restrict refl (λ t is. is) (λ m. m),
)
