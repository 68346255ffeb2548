use Rattle.std.proofs.Common.{refl}
use Rattle.std.proofs.lemmas.Result.{err_from_is_err_and}
use Rattle.sshkey_model.proofs.Grammars.{grammar}
use Rattle.sshkey_model.proofs.OptionReaders.{options_reads}
use Rattle.sshkey_base.specs.Causes.{cause}
use Rattle.sshkey_terms.proofs.SliceFronts.{split_spelled}
use Rattle.sshkey_cert_ref.specs.Views.{spelled_options_of}
use Rattle.sshkey_cert_ref.proofs.certificate_options_ref.CertificateOptionsRef.from_front.Goals as goal

pub returns-in_err-options-clause-gives : goal.returns-in_err-options-clause-gives
returns-in_err-options-clause-gives c =
    let p = err_from_is_err_and c.from_residual.result c.from_residual.ensures.1 in
    let h = c.in_err-options.ensures.gives in
    rw (p.1, p.2, h.is) (h.same refl)

pub returns-clause-gives : goal.returns-clause-gives
returns-clause-gives c = rw c.in_ok-options.ensures.gives.value refl

pub returns-in_err-options-clause-accepts : goal.returns-in_err-options-clause-accepts
returns-in_err-options-clause-accepts c = split_spelled (grammar options_reads) spelled_options_of cause c.args.bytes.now c.from_residual.result (returns-in_err-options-clause-gives c)

pub returns-clause-accepts : goal.returns-clause-accepts
returns-clause-accepts c = split_spelled (grammar options_reads) spelled_options_of cause c.args.bytes.now _ (returns-clause-gives c)
