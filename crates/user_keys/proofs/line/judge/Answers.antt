use Rattle.std.proofs.Common.{subst, sym}
use Rattle.login_terms.specs.Options.{terms_of}
use Rattle.user_keys.specs.Judgements.{Judges}
use Rattle.user_keys.specs.declared.answer.Judgement.{Judgement}
use Rattle.user_keys.proofs.Judgements.{judged}
use Rattle.user_keys.proofs.line.judge.Goals as goal

pub returns : goal.returns
returns c =
    let t = terms_of c.args.terms.now in
    subst (λ (j : Judgement). Judges t c.args.login.now.unix_timestamp c.args.login.now.client c.args.login.now.host j) (sym c.joined.ensures)
    (judged t c.args.login.now.unix_timestamp c.args.login.now.client c.args.login.now.host c.counts_at-in_time.result c.names_in_vain.result c.in_ok-in_place.in_place c.counts_at-in_time.ensures c.names_in_vain.ensures.0 c.names_in_vain.ensures.1 c.in_ok-in_place.ensures)
