use Rattle.std.proofs.Common.{rules}
use Rattle.std.specs.Prelude.{string_bytes}
use Rattle.sshkey_base.proofs.Boxes.{prefixed_gives, prefixed_stops_to_end}
use Rattle.sshkey_model.specs.Options.{value_format}
use Rattle.sshkey_cert_values.proofs.Lawful.{value_lawful}
use Rattle.sshkey_cert_values.proofs.options_map.read.boxed_value.Goals as goal

pub returns-clause-gives : goal.returns-clause-gives
returns-clause-gives g c = prefixed_gives _ _ _ _ _ string_bytes value_format.read (search rules) (search rules) _ _ _ c.read_prefixed.ensures.calls

pub returns-clause-past : goal.returns-clause-past
returns-clause-past g c = prefixed_stops_to_end _ _ _ _ _ string_bytes value_format.read (search rules) value_format.overruns value_lawful.lengths (search rules) (search rules) _ _ _ c.read_prefixed.ensures.calls
