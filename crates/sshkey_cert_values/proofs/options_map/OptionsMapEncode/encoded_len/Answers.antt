use Rattle.std.proofs.Common.{arith}
use Rattle.std.proofs.lemmas.Result.{err_from_is_err_and}
use Rattle.sshkey_model.specs.Parts.{each}
use Rattle.sshkey_base.proofs.Writing.{length_box}
use Rattle.sshkey_model.specs.Options.{plain_option}
use Rattle.sshkey_cert_values.specs.CertificateFields.{options_of}
use Rattle.sshkey_cert_values.proofs.WrittenFields.{normal_is}
use Rattle.sshkey_cert_values.proofs.options_map.OptionsMapEncode.encoded_len.Goals as goal

pub returns-in_err-each_len-clause-measures : goal.returns-in_err-each_len-clause-measures
returns-in_err-each_len-clause-measures c =
    let p = err_from_is_err_and c.from_residual.result c.from_residual.ensures.1 in
    rw (p.1, p.2, ← normal_is (options_of c.args.self.now)) c.in_err-each_len.ensures

pub returns-clause-measures : goal.returns-clause-measures
returns-clause-measures c = rw (← normal_is (options_of c.args.self.now)) (c.in_ok-each_len.ensures.0, omega (arith, length_box (each plain_option (options_of c.args.self.now)), c.in_ok-each_len.ensures.1))
