use Rattle.std.proofs.Common.{ap, sym, ◌∙◌, option_map, map}
use Rattle.std.proofs.lemmas.Result.{err_from_is_err_and}
use Rattle.std.specs.Prelude.{string_bytes}
use Rattle.sshkey_cert_values.specs.CertificateFields.{option_of}
use Rattle.sshkey_cert_values.proofs.OptionNames.{found, inserted}
use Rattle.sshkey_cert_values.proofs.options_map.OptionsMap.insert.Goals as goal

pub returns-clause-old : goal.returns-clause-old
returns-clause-old c = ap (option_map string_bytes) c.in_ok-insert.ensures.old ∙ found (string_bytes c.args.name) c.args.self.now.0.entries

pub returns-clause-set : goal.returns-clause-set
returns-clause-set c = ap (λ (es : _). map option_of es) c.in_ok-insert.ensures.entries ∙ inserted c.args.name c.args.value c.args.self.now.0.entries

pub returns-in_err-insert-clause-asks : goal.returns-in_err-insert-clause-asks
returns-in_err-insert-clause-asks c =
    let p = err_from_is_err_and c.from_residual.result c.from_residual.ensures.1 in
    rw p.1 (sym (found (string_bytes c.args.name) c.args.self.now.0.entries) ∙ ap (option_map string_bytes) c.in_err-insert.ensures.absent)
