use Rattle.sshkey_cert_values.proofs.Copies.{copied}
use Rattle.sshkey_cert_values.proofs.options_map.OptionsMap.try_clone.Goals as goal

pub returns-clause-value : goal.returns-clause-value
returns-clause-value c = copied _ _ c.in_ok-clone.ensures.cases
