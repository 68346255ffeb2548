use Rattle.std.proofs.Common.{arith, refl}
use Rattle.std.proofs.lemmas.Result.{err_from_is_err_and}
use Rattle.sshkey_model.specs.Parts.{flat}
use Rattle.sshkey_public.proofs.Filling.{length_line}
use Rattle.sshkey_public.proofs.line_writer.fill_line.Goals as goal

pub returns-in_err-count : goal.returns-in_err-count
returns-in_err-count g c =
    let p = err_from_is_err_and c.from_residual.result c.from_residual.ensures.1 in
    rw (p.1, p.2) (c.in_err-count.ensures.0, λ boxes. omega (arith, c.in_err-count.ensures.1 boxes, length_line c.args.name.now (flat (g.T.Encode.normal c.args.value.now)) c.args.comment.now), refl)
