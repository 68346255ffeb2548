use Rattle.std.proofs.Common.{ℕ, List, [], sym, ap, ◌∙◌}
use Rattle.sshkey_model.proofs.CombinedReaders.{ok_is}
use Rattle.sshkey_krl.specs.Revocation.{Krl}
use Rattle.sshkey_krl.proofs.Lawful.{krl_lawful}
use Rattle.sshkey_krl.proofs.laws.one_krl.Goals as goal

pub returns : goal.returns
returns c = λ k l b s t. ap (λ (p : Krl × List ℕ). p.0) (ok_is (k, []) (l, []) (sym (krl_lawful.grammar.alone k b s) ∙ krl_lawful.grammar.alone l b t))
