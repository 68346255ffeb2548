use Rattle.std.proofs.Common.{◌∙◌, arith}
use Rattle.std.proofs.lemmas.Result.{err_from_is_err_and}
use Rattle.sshkey_base.proofs.Writing.{inside_misfit, outside_misfit, box_first, box_later}
use Rattle.sshkey_base.proofs.encode.Encode.encode_prefixed.Goals as goal

pub returns-in_err-encoded_len : goal.returns-in_err-encoded_len
returns-in_err-encoded_len g c =
    let p = err_from_is_err_and c.from_residual.result c.from_residual.ensures.1 in
    rw (p.1, p.2) (inside_misfit g.W.Writer.fault (g.Self.Encode.normal c.args.self.now) _ _ c.in_err-encoded_len.ensures.measures)

pub returns-in_err-u32_of : goal.returns-in_err-u32_of
returns-in_err-u32_of g c =
    let p = err_from_is_err_and c.from_residual-in_err-u32_of.result c.from_residual-in_err-u32_of.ensures.1 in
    rw (p.1, p.2) (outside_misfit g.W.Writer.fault (g.Self.Encode.normal c.args.self.now) _ _ _ c.in_ok-encoded_len.ensures.measures.1 c.in_err-u32_of.ensures)

pub returns-in_err-encode : goal.returns-in_err-encode
returns-in_err-encode g c =
    let p = err_from_is_err_and c.from_residual-in_err-encode.result c.from_residual-in_err-encode.ensures.1 in
    rw (p.1, p.2) (box_first g.W.Writer.fault (g.Self.Encode.normal c.args.self.now) _ _ _ _ (c.in_ok-u32_of.ensures.0 ∙ c.in_ok-encoded_len.ensures.measures.1) c.in_err-encode.ensures)

pub returns : goal.returns
returns g c = box_later g.W.Writer.fault (g.Self.Encode.normal c.args.self.now) _ _ _ _ _ (c.in_ok-u32_of.ensures.0 ∙ c.in_ok-encoded_len.ensures.measures.1) (omega (arith, c.in_ok-u32_of.ensures.0, c.in_ok-u32_of.ensures.1)) c.in_ok-encode.ensures c.encode-2.ensures
