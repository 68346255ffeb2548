use Rattle.std.proofs.Common.{◌∙◌, sym, arith}
use Rattle.std.proofs.lemmas.Result.{err_from_is_err_and}
use Rattle.sshkey_model.specs.Parts.{bytes}
use Rattle.sshkey_base.proofs.Writing.{outside_misfit, box_first, box_later, plain_bytes, length_bytes}
use Rattle.sshkey_base.proofs.encode.encode_string.Goals as goal

pub returns-in_err-u32_of : goal.returns-in_err-u32_of
returns-in_err-u32_of g c =
    let p = err_from_is_err_and c.from_residual.result c.from_residual.ensures.1 in
    rw (p.1, p.2) (outside_misfit g.W.Writer.fault (bytes c.args.bytes.now) _ _ _ (sym (length_bytes c.args.bytes.now)) c.in_err-u32_of.ensures)

pub returns-in_err-encode : goal.returns-in_err-encode
returns-in_err-encode g c =
    let p = err_from_is_err_and c.from_residual-in_err-encode.result c.from_residual-in_err-encode.ensures.1 in
    rw (p.1, p.2) (box_first g.W.Writer.fault (bytes c.args.bytes.now) _ _ _ _ (c.in_ok-u32_of.ensures.0 ∙ sym (length_bytes c.args.bytes.now)) c.in_err-encode.ensures)

pub returns : goal.returns
returns g c = box_later g.W.Writer.fault (bytes c.args.bytes.now) _ _ _ _ _ (c.in_ok-u32_of.ensures.0 ∙ sym (length_bytes c.args.bytes.now)) (omega (arith, c.in_ok-u32_of.ensures.0, c.in_ok-u32_of.ensures.1)) c.in_ok-encode.ensures (plain_bytes g.W.Writer.fault _ _ _ _ c.write.ensures)
