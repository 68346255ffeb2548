use Rattle.std.proofs.Common.{◌∙◌, drop, refl, sym}
use Rattle.std.proofs.lemmas.Result.{err_from_is_err_and}
use Rattle.sshkey_revoked_keys.proofs.LaterKeys.{front_tells, front_told, has_front, has_size, is_later, one_later}
use Rattle.sshkey_revoked_keys.proofs.later_key.read_later_key.Goals as goal

pub returns-in_default-clause-found : goal.returns-in_default-clause-found
returns-in_default-clause-found c = λ y is. c.in_default.ensures y (has_size _ _ y is)

pub returns-then-not-has_later_front-clause-found : goal.returns-then-not-has_later_front-clause-found
returns-then-not-has_later_front-clause-found c = λ y is.
    let same = c.in-Some.ensures.1 y (has_size _ _ y is) in
    let yes = front_tells c.in-Some.blob (drop 27 y) (sym same ∙ has_front _ _ y is) in
    cc (sym c.if-not-has_later_front.true ∙ c.has_later_front.ensures ∙ yes)

pub returns-in_err-from_slice-clause-memory : goal.returns-in_err-from_slice-clause-memory
returns-in_err-from_slice-clause-memory c =
    let p = err_from_is_err_and c.from_residual.result c.from_residual.ensures.1 in
    rw (p.1, p.2) (refl, (c.in-Some.blob, is_later _ _ c.in-Some.blob _ (c.is_later_name.ensures.0 c.if-not-is_later_name.false) c.in-Some.ensures.0 (front_told c.in-Some.blob (sym c.has_later_front.ensures ∙ c.if-not-has_later_front.false))))

pub returns-clause-found : goal.returns-clause-found
returns-clause-found c =
    let is = is_later _ _ c.in-Some.blob _ (c.is_later_name.ensures.0 c.if-not-is_later_name.false) c.in-Some.ensures.0 (front_told c.in-Some.blob (sym c.has_later_front.ensures ∙ c.if-not-has_later_front.false)) in
    rw c.in_ok-from_slice.ensures.items (is, λ y other. one_later _ _ y c.in-Some.blob other is)
