use Rattle.std.proofs.Common.{subst}
use Rattle.std.specs.Prelude.{IfOk}
use Rattle.sshkey_entries.specs.OptionItems.{MaySay, Says}
use Rattle.sshkey_entries.specs.Answers.{Tells}
use Rattle.login_terms.specs.Options.{Adds, MayBe, Terms, terms_of}
use Rattle.user_keys.proofs.options.read_terms.Goals as goal

pub returns : goal.returns
returns c = subst (λ (s : Terms). IfOk c.read_options.result (Tells terms_of (Says Adds s c.args.options.now) (MaySay Adds MayBe s c.args.options.now))) c.none.ensures c.read_options.ensures
