use Rattle.std.proofs.Common.{refl}
use Rattle.std.proofs.lemmas.Result.{err_from_is_err_and}
use Rattle.sshkey_base.specs.Causes.{cause, encoding_cause, same_cause}
use Rattle.sshkey_krl.specs.Query.{query_of}
use Rattle.sshkey_krl.specs.Revocation.{Range}
use Rattle.sshkey_krl.proofs.Parts.{no_first, no_last, no_range, range_ends}
use Rattle.sshkey_krl.proofs.part.ask_range.Goals as goal

pub returns-in_err-first : goal.returns-in_err-first
returns-in_err-first c =
    let p = err_from_is_err_and c.from_residual.result c.from_residual.ensures.1 in
    rw (p.1, p.2) (no_first (query_of c.args.query.now) encoding_cause cause c.args.bytes.now _ _ c.in_err-first.ensures.gives (same_cause _))

pub returns-in_err-last : goal.returns-in_err-last
returns-in_err-last c =
    let p = err_from_is_err_and c.from_residual-in_err-last.result c.from_residual-in_err-last.ensures.1 in
    rw (p.1, p.2) (no_last (query_of c.args.query.now) encoding_cause cause c.args.bytes.now _ _ _ c.in_ok-first.ensures.gives c.in_err-last.ensures.gives (same_cause _))

pub returns-in_err-check_range : goal.returns-in_err-check_range
returns-in_err-check_range c =
    let p = err_from_is_err_and c.from_residual-in_err-check_range.result c.from_residual-in_err-check_range.ensures.1 in
    rw (p.1, p.2) (no_range (query_of c.args.query.now) encoding_cause cause c.args.bytes.now (λ _. Range c.in_ok-first.first c.in_ok-last.last) _ _ _ _ c.in_ok-first.ensures.gives c.in_ok-last.ensures.gives c.in_err-check_range.ensures refl)

pub returns : goal.returns
returns c = range_ends (query_of c.args.query.now) encoding_cause cause c.args.bytes.now (λ _. Range c.in_ok-first.first c.in_ok-last.last) _ _ _ _ c.in_ok-first.ensures.gives c.in_ok-last.ensures.gives c.in_ok-check_range.ensures (rw c.is_in_range.ensures at c.at_end.ensures)
