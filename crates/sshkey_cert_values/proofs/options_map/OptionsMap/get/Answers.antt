use Rattle.std.proofs.Common.{ap, ◌∙◌, option_map}
use Rattle.std.specs.Prelude.{string_bytes}
use Rattle.sshkey_cert_values.proofs.OptionNames.{found}
use Rattle.sshkey_cert_values.proofs.options_map.OptionsMap.get.Goals as goal

pub returns-in-Some : goal.returns-in-Some
returns-in-Some c = rw c.as_str.ensures.value (ap (option_map string_bytes) c.in-Some.ensures.value ∙ found c.args.name.now c.args.self.now.0.entries)

pub returns-in-None : goal.returns-in-None
returns-in-None c = ap (option_map string_bytes) c.in-None.ensures.value ∙ found c.args.name.now c.args.self.now.0.entries
