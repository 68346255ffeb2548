use Rattle.std.proofs.Common.{Ok, arith, refl}
use Rattle.std.proofs.lemmas.Result.{err_from_is_err_and}
use Rattle.sshkey_model.proofs.CombinedReaders.{fit_bytes}
use Rattle.sshkey_terms.proofs.SliceFronts.{box_string}
use Rattle.sshkey_cert_ref.proofs.strings.first_string.Goals as goal

pub returns-in_err-string-clause-gives : goal.returns-in_err-string-clause-gives
returns-in_err-string-clause-gives c =
    let p = err_from_is_err_and c.from_residual.result c.from_residual.ensures.1 in
    let h = c.in_err-string.ensures.gives in
    rw (p.1, p.2, box_string (λ s. Ok s) c.args.bytes.now (fit_bytes c.args.bytes.now (λ i. omega (arith, c.type_inv.bytes i))), h.is) (h.same refl)

pub returns-clause-gives : goal.returns-clause-gives
returns-clause-gives c = rw (box_string (λ s. Ok s) c.args.bytes.now (fit_bytes c.args.bytes.now (λ i. omega (arith, c.type_inv.bytes i))), c.in_ok-string.ensures.gives.value) refl
