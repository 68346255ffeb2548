use Rattle.sshkey_model.proofs.Grammars.{taken_before}
use Rattle.sshkey_base.proofs.laws.read_back.Goals as goal

pub returns : goal.returns
returns g c = λ x rest is fits ends. taken_before c.lawful.ensures.grammar _ _ rest (c.lawful_normal_form.ensures x is fits) ends
