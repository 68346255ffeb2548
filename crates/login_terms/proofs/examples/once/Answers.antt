use Rattle.std.proofs.Common.{Some, refl}
use Rattle.std.specs.Prelude.{codes}
use Rattle.login_terms.specs.Options.{no_terms}
use Rattle.login_terms.specs.declared.words.Word.TheVariants as word
use Rattle.login_terms.proofs.ExampleLemmas.{refuses, says, some_none}
use Rattle.login_terms.proofs.examples.once.Goals as goal

pub returns : goal.returns
returns c = (
  says (codes "command") (Some (codes "ls")) no_terms word.Command _ refl (refl, refl) (λ u is. is.1),
  says (codes "principals") (Some (codes "a")) no_terms word.Principals _ refl (refl, refl) (λ u is. is.1),
  says (codes "from") (Some (codes "::1")) no_terms word.From _ refl (refl, refl) (λ u is. is.1),
  refuses (codes "command") (Some (codes "ls")) _ word.Command refl (λ t is. some_none _ is.0) (λ m. m),
  refuses (codes "principals") (Some (codes "a")) _ word.Principals refl (λ t is. some_none _ is.0) (λ m. m),
  refuses (codes "from") (Some (codes "::1")) _ word.From refl (λ t is. some_none _ is.0) (λ m. m),
)
