use Rattle.std.proofs.Common.{ap, ◌∙◌, ◌+◌, ℕ}
use Rattle.std.proofs.lemmas.Result.{err_from_is_err_and}
use Rattle.sshkey_krl.proofs.Writing.{header_fit, header_length, header_misfit}
use Rattle.sshkey_krl.proofs.encode.HeaderEncode.encoded_len.Goals as goal

pub returns-in_err-encoded_len-clause-measures : goal.returns-in_err-encoded_len-clause-measures
returns-in_err-encoded_len-clause-measures c =
    let p = err_from_is_err_and c.from_residual.result c.from_residual.ensures.1 in
    rw (p.1, p.2) (header_misfit c.args.self.now.number c.args.self.now.date c.args.self.now.comment.now c.in_err-encoded_len.ensures.measures)

pub returns-clause-measures : goal.returns-clause-measures
returns-clause-measures c =
    let m = c.in_ok-encoded_len.ensures.measures in
    (header_fit c.args.self.now.number c.args.self.now.date c.args.self.now.comment.now m.0, ap (λ (k : ℕ). 40 + k) m.1 ∙ header_length c.args.self.now.number c.args.self.now.date c.args.self.now.comment.now)
