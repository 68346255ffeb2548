use Rattle.std.proofs.Common.{refl}
use Rattle.std.specs.Char.{encode_utf8}
use Rattle.std.specs.Str.{chars, is_utf8}
use Rattle.sshkey_model.specs.CertificateNames.{certificate_algorithm_at}
use Rattle.sshkey_model.specs.Certificates.{certificate_at, signed_fields_at}
use Rattle.sshkey_model.specs.Keys.{key_at, key_data_at}
use Rattle.sshkey_model.specs.Labels.{label_at}
use Rattle.sshkey_model.specs.Names.{is_other_name, is_own_name, named}
use Rattle.sshkey_model.specs.Options.{options_at, spelled_option_format}
use Rattle.sshkey_model.specs.Reading.{after_at, box_at, bytes_at, list_within, literal_at, number_at, string_at}
use Rattle.sshkey_model.specs.Signatures.{signature_at}
use Rattle.sshkey_model.specs.Texts.{text_at, texts_at}
use Rattle.sshkey_userauth.proofs.examples.key_forms.Goals as goal

pub returns : goal.returns
unfolding after_at box_at bytes_at certificate_algorithm_at certificate_at chars encode_utf8 is_other_name is_own_name is_utf8 key_at key_data_at label_at list_within literal_at named number_at options_at signature_at signed_fields_at spelled_option_format string_at text_at texts_at
returns c = (refl, refl, refl)
