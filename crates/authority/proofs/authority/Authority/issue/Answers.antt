use Rattle.std.proofs.Common.{inl, rules}
use Rattle.std.proofs.lemmas.Result.{err_from_is_err_and}
use Rattle.authority.proofs.Requests.{issued, numbered, outside, used, well_formed}
use Rattle.authority.proofs.authority.Authority.issue.Goals as goal

pub returns-in_err-check-clause-issued : goal.returns-in_err-check-clause-issued
returns-in_err-check-clause-issued g c =
    let p = err_from_is_err_and c.from_residual.result c.from_residual.ensures.1 in
    rw (p.1, p.2) (inl c.in_err-check.ensures.refused)

pub returns-in_err-check-clause-used : goal.returns-in_err-check-clause-used
returns-in_err-check-clause-used g c = λ within room. absurd (outside _ _ _ _ c.in_err-check.ensures.refused within)

pub certify-requires : goal.certify-requires
certify-requires g c = λ window some. rw c.get.ensures.value (c.requires.permits c.in_ok-check.ensures.exactly (search rules))

pub returns-clause-issued : goal.returns-clause-issued
returns-clause-issued g c =
    let made = rw c.get.ensures.value at c.certify.ensures in
    issued _ _ (g.S.SigningKey.refuses c.args.signer.now) _ _ c.args.request _ _ c.in_ok-check.ensures.exactly c.certify.result made (search rules)

pub returns-clause-history : goal.returns-clause-history
returns-clause-history g c =
    let made = rw c.get.ensures.value at c.certify.ensures in
    used _ _ (g.S.SigningKey.refuses c.args.signer.now) c.args.request _ _ _ (search rules) c.certify.result made

pub returns-clause-numbered : goal.returns-clause-numbered
returns-clause-numbered g c = numbered _ _ (g.S.SigningKey.refuses c.args.signer.now) c.args.request _ _ (search rules) c.certify.result c.certify.ensures

pub returns-clause-form : goal.returns-clause-form
returns-clause-form g c = λ key signer. well_formed _ _ (g.S.SigningKey.refuses c.args.signer.now) _ _ c.args.request _ _ c.in_ok-check.ensures.exactly key signer c.certify.result c.certify.ensures
