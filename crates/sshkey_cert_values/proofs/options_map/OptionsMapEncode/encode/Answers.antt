use Rattle.std.proofs.Common.{arith}
use Rattle.std.proofs.lemmas.Result.{err_from_is_err_and}
use Rattle.sshkey_model.specs.Parts.{Parts, each}
use Rattle.sshkey_base.proofs.Writing.{misfit, box_first, box_later, boxes_length}
use Rattle.sshkey_model.specs.Options.{plain_option}
use Rattle.sshkey_cert_values.specs.CertificateFields.{options_of}
use Rattle.sshkey_cert_values.proofs.WrittenFields.{normal_is}
use Rattle.sshkey_cert_values.proofs.options_map.OptionsMapEncode.encode.Goals as goal

pub returns-in_err-each_len : goal.returns-in_err-each_len
returns-in_err-each_len g c =
    let p = err_from_is_err_and c.from_residual.result c.from_residual.ensures.1 in
    rw (p.1, p.2, ← normal_is (options_of c.args.self.now)) (misfit g.W.Writer.fault _ _ _ c.in_err-each_len.ensures)

pub returns-in_err-encode : goal.returns-in_err-encode
returns-in_err-encode g c =
    let p = err_from_is_err_and c.from_residual-in_err-encode.result c.from_residual-in_err-encode.ensures.1 in
    rw (p.1, p.2, ← normal_is (options_of c.args.self.now)) (box_first g.W.Writer.fault (each plain_option (options_of c.args.self.now)) _ _ _ _ c.in_ok-each_len.ensures.1 c.in_err-encode.ensures)

pub returns : goal.returns
returns g c =
    let parts : Parts = each plain_option (options_of c.args.self.now) in
    let small = boxes_length parts c.in_ok-each_len.ensures.0 in
    rw (← normal_is (options_of c.args.self.now)) (box_later g.W.Writer.fault parts _ _ _ _ _ c.in_ok-each_len.ensures.1 (omega (arith, c.in_ok-each_len.ensures.1, small)) c.in_ok-encode.ensures c.encode_each.ensures)
