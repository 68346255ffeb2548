use Rattle.std.proofs.Common.{Some, arith, refl}
use Rattle.std.specs.Prelude.{codes}
use Rattle.login_terms.specs.Options.{no_terms}
use Rattle.login_terms.specs.declared.words.Word.TheVariants as word
use Rattle.login_terms.proofs.ExampleLemmas.{adds, plain, port}
use Rattle.login_terms.proofs.examples.permits.Goals as goal

pub returns : goal.returns
returns c = (
  adds (codes "permitopen") (Some (codes "h:80")) no_terms word.PermitOpen _ refl (omega arith, (_, plain, refl)),
  adds (codes "permitlisten") (Some (codes "80")) no_terms word.PermitListen _ refl (omega arith, (_, port, refl)),
)
