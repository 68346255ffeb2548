use Rattle.std.proofs.Common.{rules}
use Rattle.sshkey_model.specs.Needs.{HasString}
use Rattle.sshkey_model.specs.Options.{option_list_format, options_value_at}
use Rattle.sshkey_base.specs.Causes.{cause}
use Rattle.sshkey_base.proofs.FilledBoxes.{filled_stops}
use Rattle.sshkey_cert_values.specs.CertificateFields.{options_of}
use Rattle.sshkey_cert_values.proofs.Lawful.{option_list_lawful}
use Rattle.sshkey_cert_values.proofs.options_map.OptionsMapDecode.decode.Goals as goal

pub returns-clause-past : goal.returns-clause-past
unfolding options_value_at
returns-clause-past g c = filled_stops _ _ _ cause _ options_of option_list_format.read (search rules) HasString option_list_format.overruns option_list_lawful.lengths (search rules) (search rules) (search rules) (g.R.Reader.source c.args.reader.now) _ _ c.read_prefixed.ensures.calls
