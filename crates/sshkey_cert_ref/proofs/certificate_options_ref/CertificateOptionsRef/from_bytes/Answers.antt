use Rattle.std.proofs.lemmas.Result.{err_from_is_err_and}
use Rattle.sshkey_base.specs.Causes.{cause}
use Rattle.sshkey_cert_ref.proofs.OptionLists.{options_spelled, no_option_list, judged}
use Rattle.sshkey_cert_ref.proofs.certificate_options_ref.CertificateOptionsRef.from_bytes.Goals as goal

pub returns-in_err-plain-clause-accepts : goal.returns-in_err-plain-clause-accepts
returns-in_err-plain-clause-accepts c =
    let p = err_from_is_err_and c.from_residual.result c.from_residual.ensures.1 in
    rw p.1 (no_option_list cause c.args.bytes.now _ c.in_err-plain.ensures)

pub invariant_of-result : goal.invariant_of-result
invariant_of-result c =
    let j = judged cause c.args.bytes.now c.in_ok-plain.plain c.in_ok-plain.ensures in
    record { form = j.form; choices = j.choices }

pub returns-clause-accepts : goal.returns-clause-accepts
returns-clause-accepts c =
    let j = judged cause c.args.bytes.now c.in_ok-plain.plain c.in_ok-plain.ensures in
    options_spelled c.args.bytes.now j.form
