use Rattle.std.proofs.Common.{◌++◌, ◌∙◌, List, ℕ, ap, inl, refl}
use Rattle.std.proofs.lemmas.Result.{err_from_is_err_and}
use Rattle.sshkey_calls.proofs.DraftNumbers.{wrong_part}
use Rattle.sshkey_calls.proofs.signed.join.Goals as goal

pub returns-in_err-string : goal.returns-in_err-string
returns-in_err-string c =
    let p = err_from_is_err_and c.from_residual.result c.from_residual.ensures.1 in
    rw (p.1, p.2) (wrong_part _ _ _ (λ x. x) (λ _. refl) c.in_err-string.ensures)

pub returns-in-Ok : goal.returns-in-Ok
returns-in-Ok c =
    let string = c.in_ok-string.ensures in
    let all = c.in-Ok.ensures ∙ ap (λ (s : List ℕ). c.args.to_be_signed.now ++ s) (c.deref.ensures.value ∙ string.0.0) in
    ((all, string.0.1), string.1)

pub returns : goal.returns
returns c = inl (refl, c.in_ok-string.ensures.0.1)
