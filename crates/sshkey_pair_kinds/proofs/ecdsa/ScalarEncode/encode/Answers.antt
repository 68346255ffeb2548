use Rattle.std.proofs.Common.{sym, ◌∙◌}
use Rattle.std.proofs.lemmas.Result.{err_from_is_err_and}
use Rattle.sshkey_model.specs.KeyPairs.{is_high}
use Rattle.sshkey_pair_kinds.proofs.SignedScalars.{sign_stopped, signed_written, unsigned_written}
use Rattle.sshkey_pair_kinds.proofs.ecdsa.ScalarEncode.encode.Goals.{then-is_high+in_ok-write, else-is_high}
use Rattle.sshkey_pair_kinds.proofs.ecdsa.ScalarEncode.encode.Goals as goal

pub returns-in_err-write : goal.returns-in_err-write
returns-in_err-write g c =
    let p = err_from_is_err_and c.from_residual.result c.from_residual.ensures.1 in
    rw (p.1, p.2) (sign_stopped _ c.args.self.now.bytes.now _ _ _ (is_high c.args.self.now.bytes.now) (sym c.is_high.ensures ∙ c.if-is_high.true) c.in_err-write.ensures)

pub returns : goal.returns
returns g c =
    let b = c.args.self.now.bytes.now in
    elim c.if-is_high.branch [
      | then-is_high+in_ok-write w ↦ signed_written _ b _ _ _ _ (is_high b) (sym c.is_high.ensures ∙ w.if-is_high.true) w.in_ok-write.ensures (rw w.writer-is at c.write-2.ensures)
      | else-is_high w ↦ unsigned_written _ b _ _ _ (is_high b) (sym c.is_high.ensures ∙ w.if-is_high.false) (rw w.writer-is at c.write-2.ensures)
    ]
