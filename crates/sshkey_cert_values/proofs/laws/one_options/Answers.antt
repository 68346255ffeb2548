use Rattle.sshkey_model.proofs.Grammars.{one_front}
use Rattle.sshkey_cert_values.proofs.Lawful.{options_grammar}
use Rattle.sshkey_cert_values.proofs.laws.one_options.Goals as goal

pub returns : goal.returns
returns c = one_front options_grammar
