use Rattle.std.proofs.Common.{refl}
use Rattle.std.proofs.lemmas.Result.{err_from_is_err_and}
use Rattle.sshkey_model.specs.Reading.{string_at}
use Rattle.sshkey_model.specs.Texts.{text_at, text_from}
use Rattle.sshkey_base.specs.Causes.{encoding_cause}
use Rattle.sshkey_base.proofs.Lawful.{text_grammar}
use Rattle.sshkey_terms.proofs.SliceFronts.{split_spelled, split_refused, judge_refused, judge_taken}
use Rattle.sshkey_terms.proofs.split.split_text.Goals as goal

pub returns-in_err-string-clause-gives : goal.returns-in_err-string-clause-gives
unfolding text_at
returns-in_err-string-clause-gives c =
    let p = err_from_is_err_and c.from_residual.result c.from_residual.ensures.1 in
    rw (p.1, p.2) (split_refused (λ b. b.now) encoding_cause (λ t. t.now) encoding_cause encoding_cause string_at text_from c.args.bytes.now _ _ c.in_err-string.ensures.gives refl)

pub returns-in_err-text_of-clause-gives : goal.returns-in_err-text_of-clause-gives
unfolding text_at
returns-in_err-text_of-clause-gives c =
    let p = err_from_is_err_and c.from_residual-in_err-text_of.result c.from_residual-in_err-text_of.ensures.1 in
    rw (p.1, p.2) (judge_refused (λ b. b.now) encoding_cause (λ t. t.now) encoding_cause encoding_cause string_at text_from c.args.bytes.now _ _ _ c.in_ok-string.ensures.gives c.in_err-text_of.ensures refl)

pub returns-clause-gives : goal.returns-clause-gives
unfolding text_at
returns-clause-gives c = judge_taken (λ b. b.now) encoding_cause (λ t. t.now) encoding_cause encoding_cause string_at text_from c.args.bytes.now _ _ c.in_ok-string.ensures.gives c.in_ok-text_of.ensures

pub returns-in_err-string-clause-accepts : goal.returns-in_err-string-clause-accepts
returns-in_err-string-clause-accepts c = split_spelled text_grammar (λ t. t.now) encoding_cause c.args.bytes.now c.from_residual.result (returns-in_err-string-clause-gives c)

pub returns-in_err-text_of-clause-accepts : goal.returns-in_err-text_of-clause-accepts
returns-in_err-text_of-clause-accepts c = split_spelled text_grammar (λ t. t.now) encoding_cause c.args.bytes.now c.from_residual-in_err-text_of.result (returns-in_err-text_of-clause-gives c)

pub returns-clause-accepts : goal.returns-clause-accepts
returns-clause-accepts c = split_spelled text_grammar (λ t. t.now) encoding_cause c.args.bytes.now _ (returns-clause-gives c)
