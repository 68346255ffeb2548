use Rattle.std.proofs.Common.{refl}
use Rattle.std.proofs.lemmas.Result.{err_from_is_err_and}
use Rattle.sshkey_model.specs.Options.{spelled_value_format}
use Rattle.sshkey_model.specs.Reading.{whole}
use Rattle.sshkey_model.specs.Terms.{boxed}
use Rattle.sshkey_base.specs.Causes.{encoding_cause}
use Rattle.sshkey_cert_ref.specs.SpelledOptions.{value_pair_of}
use Rattle.sshkey_cert_ref.proofs.OptionLists.{box_bytes, no_string, in_string}
use Rattle.sshkey_cert_ref.proofs.certificate_options_ref.item.take_value.Goals as goal

pub returns-in_err-string : goal.returns-in_err-string
returns-in_err-string c =
    let p = err_from_is_err_and c.from_residual.result c.from_residual.ensures.1 in
    let b = c.args.bytes.now.now in
    rw (p.1, p.2) (no_string (boxed spelled_value_format).read (whole spelled_value_format.read) b (box_bytes (whole spelled_value_format.read) b) _ _ refl c.in_err-string.ensures.gives)

pub returns : goal.returns
returns c =
    let b = c.args.bytes.now.now in
    in_string (boxed spelled_value_format).read (whole spelled_value_format.read) b (box_bytes (whole spelled_value_format.read) b) value_pair_of encoding_cause _ _ c.value_from.result c.in_ok-string.ensures.gives c.value_from.ensures
