use Rattle.std.proofs.lemmas.Result.{err_from_is_err_and}
use Rattle.sshkey_model.specs.Options.{options_at}
use Rattle.sshkey_base.specs.Causes.{cause, same_cause}
use Rattle.sshkey_cert_ref.specs.Views.{spelled_options_of}
use Rattle.sshkey_cert_ref.proofs.OptionLists.{no_string, in_string, spelled_from, options_string, kept_options}
use Rattle.sshkey_cert_ref.proofs.certificate_options_ref.CertificateOptionsRefReadFromRefSliceU8.read_from.Goals as goal

pub returns-in_err-string-clause-gives : goal.returns-in_err-string-clause-gives
returns-in_err-string-clause-gives c =
    let p = err_from_is_err_and c.from_residual.result c.from_residual.ensures.1 in
    let b = c.args.reader.now.now in
    rw (p.1, p.2) (no_string options_at spelled_from b (options_string b) _ _ (same_cause c.in_err-string.field-0.0) c.in_err-string.ensures.gives)

pub returns-clause-gives : goal.returns-clause-gives
returns-clause-gives c =
    let b = c.args.reader.now.now in
    in_string options_at spelled_from b (options_string b) spelled_options_of cause _ _ c.from_bytes.result c.in_ok-string.ensures.gives (kept_options cause _ c.from_bytes.result c.from_bytes.ensures.keeps)
