use Rattle.std.proofs.Common.{ap, refl, sym, ◌∙◌}
use Rattle.std.proofs.lemmas.Result.{err_from_is_err_and}
use Rattle.sshkey_public.proofs.ReadLines.{short_name}
use Rattle.sshkey_revoked_keys.proofs.NamedWords.{one_value}
use Rattle.sshkey_revoked_keys.proofs.named_word.read_named.Goals as goal

pub returns-in_err-value-clause-reads : goal.returns-in_err-value-clause-reads
returns-in_err-value-clause-reads g c = let p = err_from_is_err_and c.from_residual.result c.from_residual.ensures.1 in
    rw (p.1, p.2) (λ other v is. c.in_err-value.ensures.reads other v is.spelled)

pub returns-in_err-value-clause-fault : goal.returns-in_err-value-clause-fault
returns-in_err-value-clause-fault g c = let p = err_from_is_err_and c.from_residual.result c.from_residual.ensures.1 in
    rw (p.1, p.2) (λ other. record { bad_word = λ _. c.in_err-value.ensures.fault other; other_name = λ v is _. absurd (c.in_err-value.ensures.reads other v is) })

pub is_named-requires : goal.is_named-requires
is_named-requires g c = short_name c.lawful_blob.ensures _ _ c.in_ok-value.ensures.reads

pub returns-then-not-is_named-clause-reads : goal.returns-then-not-is_named-clause-reads
returns-then-not-is_named-clause-reads g c = λ _ v is.
    let same = one_value _ c.lawful_blob.ensures.blobs _ _ _ is.spelled c.in_ok-value.ensures.reads in
    cc (sym c.if-not-is_named.true ∙ c.is_named.ensures.1 (is.named ∙ ap g.T.Blob.name same))

pub returns-then-not-is_named-clause-fault : goal.returns-then-not-is_named-clause-fault
returns-then-not-is_named-clause-fault g c = λ _. record { bad_word = λ none. absurd (none _ c.in_ok-value.ensures.reads); other_name = λ _ _ _. refl }

pub returns-clause-reads : goal.returns-clause-reads
returns-clause-reads g c = record { named = c.is_named.ensures.0 c.if-not-is_named.false; spelled = c.in_ok-value.ensures.reads }
