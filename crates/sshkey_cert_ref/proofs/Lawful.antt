-- The formats are lawful.
use Rattle.std.proofs.Common.{[], refl}
use Rattle.sshkey_model.specs.Formats.{IsFormat}
use Rattle.sshkey_model.specs.Keys.{key_at, spelled_key, spelled_key_format}
use Rattle.sshkey_model.specs.Options.{Plain, apart, options_at, spelled_option_format, spelled_options_format, spelled_text, spelled_value_format}
use Rattle.sshkey_model.proofs.Grammars.{grammar}
use Rattle.sshkey_model.proofs.KeyReaders.{key_reads}
use Rattle.sshkey_model.proofs.OptionReaders.{options_reads}
use Rattle.sshkey_base.proofs.Lawful.{certified_lawful, text_lawful, texts_lawful}
use Rattle.sshkey_terms.proofs.Lawful.{boxed_lawful, dependent_lawful, each_after_lawful, known_as_lawful, or_nothing_lawful, tested_lawful}
use Rattle.sshkey_keys.proofs.Lawful.{body_lawful, name_lawful}
use Rattle.sshkey_cert_values.proofs.Lawful.{end_lawful, no_length, option_lawful, option_shows, text_shows, time_lawful, type_lawful}
use Rattle.sshkey_cert_ref.specs.Certificates.{boxed_key_format}

spelled_value_lawful : IsFormat spelled_value_format
spelled_value_lawful = or_nothing_lawful ([], Plain) (λ x b s. text_shows s.inner b s.spelled) no_length (tested_lawful spelled_text text_lawful)

pub spelled_options_lawful : IsFormat spelled_options_format
unfolding options_at spelled_option_format
spelled_options_lawful = known_as_lawful (tested_lawful apart (boxed_lawful (each_after_lawful (λ before. option_shows spelled_value_format _) (λ before. option_lawful _ spelled_value_lawful) (λ before. refl)))) (λ b. refl) (grammar options_reads)

spelled_key_lawful : IsFormat spelled_key_format
unfolding key_at
spelled_key_lawful = known_as_lawful (tested_lawful spelled_key (dependent_lawful name_lawful body_lawful)) (λ b. refl) (grammar key_reads)

pub boxed_key_lawful : IsFormat boxed_key_format
boxed_key_lawful = boxed_lawful spelled_key_lawful

pub ruleset lawful = (type_lawful, time_lawful, end_lawful, texts_lawful, certified_lawful, spelled_options_lawful, boxed_key_lawful)
